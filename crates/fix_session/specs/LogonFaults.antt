-- Why the first message of a link isn't answered: the first of these that holds (FIX 4.4 Volume 2, "Logon").
use Rattle.std.specs.Prelude.{◌==◌, ◌&&◌, ◌||◌, not, is_none, codes, Option, Some, None, if◌then◌else◌}
use Rattle.fix_fields.specs.Field.{Message, has, is}
use Rattle.fix_fields.specs.Fault.{first_fault}
use Rattle.session_law.specs.Session.{State}
use Rattle.session_law.specs.Messages.{short_number}
use Rattle.session_law.specs.Table.{is_interval, is_type, message_number, resets}
use Rattle.fix_session.specs.declared.logon_fault.LogonFault.{LogonFault}
use Rattle.fix_session.specs.declared.logon_fault.LogonFault.TheVariants as faults

abbrev pub logon_fault : State → Message → Option LogonFault
logon_fault s m =
    if not (is_type (codes "A") m) then Some faults.Type
    else if not (is 49 s.client m) then Some faults.Sender
    else if not (is 56 s.gate m) then Some faults.Target
    else if message_number m == 0 then Some faults.Number
    else if not (is 98 (codes "0") m) then Some faults.Encryption
    else if not (is_interval (short_number 108 m)) then Some faults.Interval
    else if not (not (has 141 m) || (resets m || is 141 (codes "N") m)) then Some faults.ResetFlag
    else if not (is_none (first_fault m)) then Some faults.Malformed
    else if resets m && not (message_number m == 1) then Some faults.ResetNumber
    else None
