-- The packets of a stream.
use Rattle.std.proofs.Common.{◌≡◌, ◌≤◌, ◌+◌, ◌/◌, ◌%◌, ℕ, Bool, true, false, List, [], ◌∷◌, ◌++◌, length, take, drop}
use Rattle.std.proofs.Common.{refl, sym, ap, subst, ◌∙◌, arith, append_assoc, length-append, length-take-le, inl, inr}
use Rattle.std.proofs.Common.{Result, Ok, Err, Option, Some, None, IfOk, IfNone, IsErrOf}
use Rattle.std.proofs.lemmas.List.{take-append-drop, append-nil, drop-drop}
use Rattle.std.proofs.lemmas.List.Concat.{flat_map-append}
use Rattle.soup_packets.specs.declared.packet.Packet.{Packet}
use Rattle.soup_packets.specs.declared.packets.PacketFault.{PacketFault}
use Rattle.soup_packets.specs.declared.packets.PacketFault.TheVariants as fault
use Rattle.soup_packets.specs.declared.view.PacketView.{PacketView}
use Rattle.soup_packets.specs.Front.{LendsPacket}
use Rattle.soup_packets.specs.Spelling.{packet_bytes, same_first}
use Rattle.soup_packets.specs.Stream.{packets_written, ArePackets, EndsEmpty, IsPartial, BeginsEmpty, Stops, Fed}
use Rattle.soup_packets.specs.Stream.{PassesPacket}
use Rattle.wire_streams.specs.Buffer.{BytesHeld, LetsGo}

written_both : (ps qs : List Packet) → packets_written (ps ++ qs) ≡ packets_written ps ++ packets_written qs
written_both ps qs = flat_map-append packet_bytes ps qs

-- one packet more
pub written_more : (ps : List Packet) (p : Packet) (b x : List ℕ)
    → packets_written (ps ++ p ∷ []) ++ x ≡ packets_written ps ++ (packet_bytes p ++ x)
written_more ps p b x = rw (written_both ps (p ∷ [])) (grind (arith, append_assoc))

-- ---- one list of packets

-- no packet begins it
abbrev IsStuck : List ℕ → Type 0
IsStuck rest = (p : Packet) (x : List ℕ) → rest ≡ packet_bytes p ++ x → ⊥

along : (P : List ℕ → Type 0) (x y : List ℕ) → x ≡ y → P x → P y
along P x y e p = subst P e p

stuck_partial : (rest : List ℕ) → IsPartial rest → IsStuck rest
stuck_partial rest partial p x e = let short = along IsPartial rest (packet_bytes p ++ x) e partial in
    omega (arith, length-append p.payload x)

stuck_empty : (rest : List ℕ) → BeginsEmpty rest → IsStuck rest
stuck_empty rest empty p x e = let zeros = along BeginsEmpty rest (packet_bytes p ++ x) e empty in
    let high : (length p.payload + 1) / 256 ≡ 0 = zeros.0 in let low : (length p.payload + 1) % 256 ≡ 0 = zeros.1 in
    omega arith

pub stuck : (b : Bool) (rest : List ℕ) → Stops b rest → IsStuck rest
stuck true rest s = stuck_empty rest s
stuck false rest s = stuck_partial rest s

no_more : (ps others : List Packet) (rest x : List ℕ) → IsStuck rest
    → packets_written ps ++ rest ≡ packets_written others ++ x → length others ≤ length ps
no_more ps [] rest x s e = omega arith
no_more [] (q ∷ qs) rest x s e = absurd (s q (packets_written qs ++ x)
    (e ∙ append_assoc (packet_bytes q) (packets_written qs) x))
no_more (p ∷ ps) (q ∷ qs) rest x s e =
    let both = same_first p q (packets_written ps ++ rest) (packets_written qs ++ x)
    (sym (append_assoc (packet_bytes p) (packets_written ps) rest)
    ∙ (e ∙ append_assoc (packet_bytes q) (packets_written qs) x)) in
    let fewer = no_more ps qs rest x s both.1 in
    omega arith

pub are_packets : (b : Bool) (stream : List ℕ) (packets : List Packet) (rest : List ℕ)
    → stream ≡ packets_written packets ++ rest → Stops b rest → ArePackets stream packets
are_packets b stream packets rest whole stops = record {
  begin = (rest, whole);
  longest = λ others begin. no_more packets others rest begin.0 (stuck b rest stops) (sym whole ∙ begin.1);
}

same_lists : (ps qs : List Packet) (x y : List ℕ) → length ps ≡ length qs
    → packets_written ps ++ x ≡ packets_written qs ++ y → ps ≡ qs
same_lists [] [] x y n e = refl
same_lists [] (q ∷ qs) x y n e = absurd (omega arith)
same_lists (p ∷ ps) [] x y n e = absurd (omega arith)
same_lists (p ∷ ps) (q ∷ qs) x y n e =
    let both = same_first p q (packets_written ps ++ x) (packets_written qs ++ y)
    (sym (append_assoc (packet_bytes p) (packets_written ps) x)
    ∙ (e ∙ append_assoc (packet_bytes q) (packets_written qs) y)) in
    let others = same_lists ps qs x y (omega arith) both.1 in
    let firsts = both.0 in
    cc

pub one_list : (stream : List ℕ) (packets others : List Packet) → ArePackets stream packets → ArePackets stream others
    → packets ≡ others
one_list stream packets others these those =
    let most = these.longest others those.begin in
    let least = those.longest packets these.begin in
    same_lists packets others these.begin.0 those.begin.0 (omega arith) (sym these.begin.1 ∙ those.begin.1)

-- ---- a reader

cancel : (a x y : List ℕ) → a ++ x ≡ a ++ y → x ≡ y
cancel [] x y e = e
cancel (h ∷ a) x y e = let tails : a ++ x ≡ a ++ y = cc in cancel a x y tails

empty_begins : (rest : List ℕ) → BeginsEmpty rest → (more : List ℕ) × (rest ≡ 0 ∷ 0 ∷ more)
empty_begins [] e = absurd e
empty_begins (h ∷ []) e = absurd e
empty_begins (h ∷ l ∷ more) e = (more, rw (e.0, e.1) refl)

-- what follows a length of 0 changes nothing
pub empty_more : (stream piece : List ℕ) (given : List Packet) → EndsEmpty stream given
    → EndsEmpty (stream ++ piece) given
empty_more stream piece given empty = (
  empty.0 ++ piece,
  ap (λ (s : List ℕ). s ++ piece) empty.1
      ∙ append_assoc (packets_written given) (0 ∷ 0 ∷ empty.0) piece,
)

-- a packet in front is no length of 0
pub not_both : (held rest : List ℕ) (p : Packet) → held ≡ packet_bytes p ++ rest → BeginsEmpty held → ⊥
not_both held rest p e empty = stuck_empty held empty p rest e

-- the packet in front was passed
pub fed_passed : (stream : List ℕ) (given : List Packet) (p : Packet) (old new : BytesHeld)
    → old.held ≡ packet_bytes p ++ new.held → Fed stream given old → Fed stream (given ++ p ∷ []) new
unfolding Fed
fed_passed stream given p old new front fed = elim fed [
  | inl e ↦ inl (e ∙ (ap (λ (s : List ℕ). packets_written given ++ s) front ∙ sym (written_more given p [] new.held)))
  | inr e ↦ absurd (not_both old.held new.held p front e.0)
]

-- a piece more was taken
pub fed_put : (stream piece : List ℕ) (passed : List Packet) (old new : BytesHeld) → (BeginsEmpty old.held → ⊥)
    → new.held ≡ old.held ++ piece
    → Fed stream passed old → Fed (stream ++ piece) passed new
unfolding Fed
fed_put stream piece passed old new open_ held fed = elim fed [
  | inl e ↦ inl (ap (λ (s : List ℕ). s ++ piece) e
      ∙ (append_assoc (packets_written passed) old.held piece
      ∙ ap (λ (s : List ℕ). packets_written passed ++ s) (sym held)))
  | inr e ↦ absurd (open_ e.0)
]

-- the packets that were taken out behind those passed
pub fed_taken : (stream piece : List ℕ) (before given : List Packet) (old new : BytesHeld) → (BeginsEmpty old.held → ⊥)
    → old.held ++ piece ≡ packets_written given ++ new.held
    → Fed stream before old → stream ++ piece ≡ packets_written (before ++ given) ++ new.held
unfolding Fed
fed_taken stream piece before given old new open_ whole fed = elim fed [
  | inl e ↦
      ap (λ (s : List ℕ). s ++ piece) e
      ∙ (append_assoc (packets_written before) old.held piece
      ∙ (ap (λ (s : List ℕ). packets_written before ++ s) whole
      ∙ (sym (append_assoc (packets_written before) (packets_written given) new.held)
      ∙ ap (λ (s : List ℕ). s ++ new.held) (sym (written_both before given)))))
  | inr e ↦ absurd (open_ e.0)
]

pub fed_of : (stream : List ℕ) (given : List Packet) (reader : BytesHeld)
    → stream ≡ packets_written given ++ reader.held → Fed stream given reader
unfolding Fed
fed_of stream given reader e = inl e

-- a length of 0 in front ends the stream
pub ends_empty : (stream : List ℕ) (given : List Packet) (held : List ℕ) → stream ≡ packets_written given ++ held
    → BeginsEmpty held → EndsEmpty stream given
ends_empty stream given held e empty = let zeros = empty_begins held empty in
    (zeros.0, e ∙ ap (λ (s : List ℕ). packets_written given ++ s) zeros.1)

pub fed_ended : (stream : List ℕ) (given : List Packet) (reader : BytesHeld) → BeginsEmpty reader.held
    → Fed stream given reader → EndsEmpty stream given
unfolding Fed
fed_ended stream given reader empty fed = elim fed [ inl e ↦ ends_empty stream given reader.held e empty | inr e ↦ e.1 ]

pub fed_ended_more : (stream piece : List ℕ) (given : List Packet) (reader : BytesHeld) → BeginsEmpty reader.held
    → Fed stream given reader → Fed (stream ++ piece) given reader
unfolding Fed
fed_ended_more stream piece given reader empty fed =
    inr (empty, empty_more stream piece given (fed_ended stream given reader empty fed))

-- and it stands in front of what is held where it ends the stream
begins_empty : (held more : List ℕ) → held ≡ 0 ∷ 0 ∷ more → BeginsEmpty held
begins_empty held more e = along BeginsEmpty (0 ∷ 0 ∷ more) held (sym e) (refl, refl)

pub empty_held : (stream : List ℕ) (given : List Packet) (held : List ℕ) → stream ≡ packets_written given ++ held
    → EndsEmpty stream given → BeginsEmpty held
empty_held stream given held e empty = begins_empty held empty.0
    (cancel (packets_written given) held (0 ∷ 0 ∷ empty.0) (sym e ∙ empty.1))

pub fed_empty : (stream : List ℕ) (given : List Packet) (reader : BytesHeld) → Fed stream given reader
    → EndsEmpty stream given → BeginsEmpty reader.held
unfolding Fed
fed_empty stream given reader fed empty = elim fed [ inl e ↦ empty_held stream given reader.held e empty | inr e ↦ e.0 ]

pub not_partial : (held : List ℕ) → IsPartial held → BeginsEmpty held → ⊥
not_partial [] partial empty = empty
not_partial (h ∷ []) partial empty = empty
not_partial (h ∷ l ∷ more) partial empty = let high = empty.0 in let low = empty.1 in omega arith

-- one packet more is cut off
pub cut_more : (bytes : List ℕ) (used size : ℕ) (packets more : List Packet) (p : Packet)
    → bytes ≡ packets_written packets ++ drop used bytes
    → packet_bytes p ≡ take size (drop used bytes) → more ≡ packets ++ p ∷ []
    → bytes ≡ packets_written more ++ drop (used + size) bytes
cut_more bytes used size packets more p whole is pushed =
    whole
    ∙ (ap (λ (s : List ℕ). packets_written packets ++ s) (sym (take-append-drop size (drop used bytes)))
    ∙ (ap (λ (s : List ℕ). packets_written packets ++ (s ++ drop size (drop used bytes))) (sym is)
    ∙ (ap (λ (s : List ℕ). packets_written packets ++ (packet_bytes p ++ s)) (drop-drop size used bytes)
    ∙ (sym (written_more packets p [] (drop (used + size) bytes))
    ∙ ap (λ (ps : List Packet). packets_written ps ++ drop (used + size) bytes) (sym pushed)))))

pub before_none : (before given : List Packet) → given ≡ [] → before ++ given ≡ before
before_none before given none = rw none (append-nil before)

-- the packet in front is let go
pub passes : (old new : BytesHeld) (n : ℕ) → n ≤ length old.held → ((p : Packet) × (packet_bytes p ≡ take n old.held))
    → LetsGo n old new → PassesPacket true old new
passes old new n within front gone = (front.0, whole, subst (λ (m : ℕ). LetsGo m old new) size gone)
  where
    whole : old.held ≡ packet_bytes front.0 ++ new.held
    whole = sym (take-append-drop n old.held)
        ∙ (ap (λ (s : List ℕ). s ++ drop n old.held) (sym front.1)
        ∙ ap (λ (s : List ℕ). packet_bytes front.0 ++ s) (sym gone.held))

    size : n ≡ length (packet_bytes front.0)
    size = sym (ap length front.1 ∙ length-take-le n old.held within)

-- and is lent
pub front_seen : (p : Packet) (n : ℕ) (held : List ℕ) → packet_bytes p ≡ take n held
    → (rest : List ℕ) × (held ≡ packet_bytes p ++ rest)
front_seen p n held e = (drop n held, sym (take-append-drop n held) ∙ ap (λ (s : List ℕ). s ++ drop n held) (sym e))

-- where nothing whole stands in front, the packets passed are the stream's
all_passed : (b : Bool) (stream : List ℕ) (passed : List Packet) (reader : BytesHeld) → Stops b reader.held
    → Fed stream passed reader → ArePackets stream passed
unfolding Fed
all_passed b stream passed reader stops fed = elim fed [
  | inl e ↦ are_packets b stream passed reader.held e stops
  | inr e ↦ are_packets true stream passed (0 ∷ 0 ∷ e.1.0) e.1.1 (refl, refl)
]

pub front_none : (reader : BytesHeld) (r : Result (Option PacketView) PacketFault) → LendsPacket reader.held r
    → IfOk r (λ found. IfNone found ((stream : List ℕ) (passed : List Packet) → Fed stream passed reader
    → ArePackets stream passed))
front_none reader (Ok (Some view)) front = tt
front_none reader (Ok None) front = λ stream passed fed. all_passed false stream passed reader front fed
front_none reader (Err fault) front = tt

pub front_empty : (reader : BytesHeld) (r : Result (Option PacketView) PacketFault) → LendsPacket reader.held r
    → IsErrOf r fault.Empty
    → (stream : List ℕ) (passed : List Packet) → Fed stream passed reader
    → ArePackets stream passed × EndsEmpty stream passed
front_empty reader r front e stream passed fed =
    let over : BeginsEmpty reader.held = subst (LendsPacket reader.held) e front in
    (all_passed true stream passed reader over fed, fed_ended stream passed reader over fed)
