use Rattle.std.proofs.Common.{List, ◌++◌, ap, ◌∙◌}
use Rattle.fix_framing.specs.fix_fields.Field.{Field}
use Rattle.fix_framing.specs.fix_fields.Printed.{fields_in}
use Rattle.fix_stamp.specs.Stamp.{stamp_text}
use Rattle.session_reading.specs.session_law.Frames.{issue_fields}
use Rattle.session_writing.specs.Heads.{frame_with}
use Rattle.session_writing.proofs.output.printed_frame.Goals as goal

pub returns : goal.returns
returns c =
    let head = c.args.head in
    let body = fields_in c.args.body.now in
    c.in_ok-push_issue.ensures body
    ∙ ap (λ (fs : List Field). fs ++ issue_fields stamp_text (frame_with head body)) (c.in_ok-append_text.ensures.ok
    ∙ ap (λ (fs : List Field). fs ++ body) c.in_ok-fields.ensures)
