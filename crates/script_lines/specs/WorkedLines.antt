-- Lines that are understood, and neighbours of them that aren't, computed.
use Rattle.std.specs.Prelude.{◌≡◌, true, false, [], ◌∷◌, codes, refl}
use Rattle.std.specs.Fmt.{digits}
use Rattle.fix_fields.specs.Reading.{fields_of, cut_fields}
use Rattle.script_lines.specs.Forms.{is_number64, is_number32, is_token_number, is_printable_word}
use Rattle.script_lines.specs.MarketLines.{is_market_line}
use Rattle.script_lines.specs.Hexadecimal.{bytes_in}
use Rattle.script_lines.specs.Login.{is_session, is_sequence_number, number_field, session_field}
use Rattle.script_lines.specs.Understood.{is_understood, is_client_line, is_port_line, is_msg_text}

nothing : is_understood [] ≡ true
nothing = refl

a_space : is_understood (codes " ") ≡ false
a_space = refl

a_moment : is_understood (codes "at 0018446744073709551615") ≡ true
unfolding is_number64
a_moment = refl

a_moment_of_65_bits : is_understood (codes "at 18446744073709551616") ≡ false
unfolding is_number64
a_moment_of_65_bits = refl

-- ---- clients

links :
    (is_understood (codes "C1 up") ≡ true)
    × (is_understood (codes "C2 gone") ≡ true)
    × (is_understood (codes "C3 tick") ≡ true)
    × (is_understood (codes "C4 up") ≡ false)  -- no such client
    × (is_understood (codes "C1 end") ≡ false)  -- a port's
    × (is_understood (codes "C1 up ") ≡ false)  -- a space behind
    × (is_understood (codes "C1  up") ≡ false)  -- two between
    × (is_understood (codes "C1 u") ≡ false)
    × (is_understood (codes "C1up") ≡ false)
    × (is_understood (codes "c1 up") ≡ false)
unfolding is_client_line
links = (refl, refl, refl, refl, refl, refl, refl, refl, refl, refl)

messages :
    (is_understood (codes "C1 msg 35=V") ≡ true)  -- of any type
    × (is_understood (codes "C1 msg 35=") ≡ true)  -- and of none
    × (is_understood (codes "C2 msg 35=0|34=5|34=6|8=X") ≡ true)  -- any fields behind
    × (is_understood (codes "C1 msg 34=5|35=0") ≡ false)  -- another field first
    × (is_understood (codes "C1 msg ") ≡ false)  -- an empty field
    × (is_understood (codes "C1 msg 35=0|") ≡ false)  -- one at the end
    × (is_understood (codes "C1 msg 35=0|x=1") ≡ false)  -- no tag
    × (is_understood (codes "C1 msg 035=0") ≡ false)  -- a zero in front
    × (is_understood (codes "C1 msg") ≡ false)
unfolding is_client_line is_msg_text fields_of cut_fields digits
messages = (refl, refl, refl, refl, refl, refl, refl, refl, refl)

bytes :
    (is_understood (codes "C1 raw 8=FIX.4.4|") ≡ true)
    × (is_understood (codes "C1 raw ") ≡ true)  -- none
    × (is_understood (codes "C1 raw") ≡ false)
unfolding is_client_line
bytes = (refl, refl, refl)

-- ---- ports

port_links :
    (is_understood (codes "P1 up") ≡ true)
    × (is_understood (codes "P2 gone") ≡ true)
    × (is_understood (codes "P1 tick") ≡ true)
    × (is_understood (codes "P2 end") ≡ true)
    × (is_understood (codes "P3 up") ≡ false)
    × (is_understood (codes "P1 end ") ≡ false)
    × (is_understood (codes "P1 raw ") ≡ false)  -- a client's
unfolding is_port_line is_market_line
port_links = (refl, refl, refl, refl, refl, refl, refl)

logins :
    (is_understood (codes "P1 login SESSION001 1") ≡ true)
    × (is_understood (codes "P2 login - 0") ≡ true)
    × (is_understood (codes "P1 login S 18446744073709551615") ≡ true)
    × (is_understood (codes "P1 login S 99999999999999999999") ≡ true)  -- 67 bits, 20 digits
    × (is_understood (codes "P1 login S 1x") ≡ false)  -- no digit
    × (is_understood (codes "P1 login S 00000000000000000001") ≡ true)
    × (is_understood (codes "P1 login S 000000000000000000001") ≡ false)  -- 21 digits
    × (is_understood (codes "P1 login SESSION0001 1") ≡ false)  -- 11 bytes
    × (is_understood (codes "P1 login  1") ≡ false)  -- no session
    × (is_understood (codes "P1 login S") ≡ false)  -- no number
    × (is_understood (codes "P1 login S 1 ") ≡ false)  -- a word more
unfolding is_port_line is_session is_sequence_number is_market_line
logins = (refl, refl, refl, refl, refl, refl, refl, refl, refl, refl, refl)

sessions :
    (session_field (codes "SESSION001") ≡ codes "SESSION001")
    × (session_field (codes "S1") ≡ codes "        S1")
    × (session_field (codes "-") ≡ codes "         -")
    × (number_field (codes "07") ≡ codes "                  07")
sessions = (refl, refl, refl, refl)

packets :
    (is_understood (codes "P1 pkt 00025341") ≡ true)
    × (is_understood (codes "P1 pkt fFAb09") ≡ true)  -- digits of either case
    × (is_understood (codes "P1 pkt ") ≡ true)  -- no bytes
    × (is_understood (codes "P1 pkt 000") ≡ false)  -- half a byte
    × (is_understood (codes "P1 pkt 0g") ≡ false)  -- no digit
    × (is_understood (codes "P1 pkt 00 02") ≡ false)  -- a space
    × (is_understood (codes "P1 pkt") ≡ false)
unfolding is_port_line is_market_line
packets = (refl, refl, refl, refl, refl, refl, refl)

packet_bytes : bytes_in (codes "0002fFAb09") ≡ 0 ∷ 2 ∷ 255 ∷ 171 ∷ 9 ∷ []
packet_bytes = refl

-- the market's lines are those of `script_lines`
market :
    (is_understood (codes "P1 C 1 100 U") ≡ true)
    × (is_understood (codes "P2 P 1") ≡ true)
    × (is_understood (codes "P1 C 0 100 U") ≡ false)
    × (is_understood (codes "P1 T 1") ≡ false)
unfolding is_port_line is_market_line is_token_number is_number32 is_printable_word
market = (refl, refl, refl, refl)
