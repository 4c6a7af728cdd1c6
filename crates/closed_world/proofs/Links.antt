-- What is written to a link, one out more.
use Rattle.std.proofs.Common.{◌≡◌, ℕ, ◌+◌, ◌<◌, List, [], ◌∷◌, ◌++◌, length, map, take, get_or, sym, ap, ◌∙◌, subst}
use Rattle.std.proofs.Common.{append-nil, append_assoc}
use Rattle.std.proofs.lemmas.Grind.{flat_map-append}
use Rattle.std.proofs.lemmas.List.{map-append, take_more}
use Rattle.std.specs.List.{flat_map}
use Rattle.soup_packets.specs.declared.packet.Packet.{Packet}
use Rattle.gate_law.specs.Events.{LinkOut}
use Rattle.gate_events.specs.declared.batch.LinkOut as code
use Rattle.gate_events.specs.Seen.{link_out_seen}
use Rattle.closed_world.specs.Lines.{ArePackets, IsPacketOut, Way, with_written, written_to}

packets-parted : (xs ys : List LinkOut) → ArePackets (xs ++ ys) → ArePackets xs × ArePackets ys
packets-parted [] ys all = (tt, all)
packets-parted (x ∷ xs) ys all = let rest = packets-parted xs ys all.1 in ((all.0, rest.0), rest.1)

-- the outs so far and the next one
outs-more : (outs : List code.LinkOut) (i : ℕ) (out : code.LinkOut) → i < length outs → out ≡ get_or outs i out
    → map link_out_seen (take (i + 1) outs) ≡ map link_out_seen (take i outs) ++ link_out_seen out ∷ []
outs-more outs i out inside is =
    ap (λ (os : List code.LinkOut). map link_out_seen os) (take_more outs i out inside)
    ∙ ap (λ (o : code.LinkOut). map link_out_seen (take i outs ++ o ∷ [])) (sym is)
    ∙ map-append link_out_seen (take i outs) (out ∷ [])

same-fields : (k l : ℕ) (x y : List (List ℕ)) (u v : List Packet) → k ≡ l → x ≡ y → u ≡ v
    → (let one : Way = record { link = k; to_market = x; to_core = u } in let other : Way =
    record { link = l; to_market = y; to_core = v } in one ≡ other)
same-fields k l x y u v link market core = cc

same-way : (a b : Way) → a.link ≡ b.link → a.to_market ≡ b.to_market → a.to_core ≡ b.to_core → a ≡ b
same-way a b link market core = same-fields a.link b.link a.to_market b.to_market a.to_core b.to_core link market core

written-step : (xs : List LinkOut) (out : LinkOut) (first before after : Way) → before ≡ with_written xs first
    → after.link ≡ before.link → after.to_core ≡ before.to_core
    → after.to_market ≡ before.to_market ++ written_to before.link out
    → after ≡ with_written (xs ++ out ∷ []) first
written-step xs out first before after so_far link core market =
    same-way after (with_written (xs ++ out ∷ []) first) (link ∙ ap (λ (c : Way). c.link) so_far)
    (market ∙ ap (λ (c : Way). c.to_market ++ written_to c.link out) so_far
    ∙ append_assoc first.to_market (flat_map (written_to first.link) xs) (written_to first.link out)
    ∙ ap (λ (ys : List (List ℕ)). first.to_market ++ (flat_map (written_to first.link) xs ++ ys))
    (sym (append-nil (written_to first.link out)))
    ∙ ap (λ (ys : List (List ℕ)). first.to_market ++ ys) (sym (flat_map-append (written_to first.link) xs (out ∷ []))))
    (core ∙ ap (λ (c : Way). c.to_core) so_far)

-- one out more is written
pub written-more : (outs : List code.LinkOut) (i : ℕ) (out : code.LinkOut) (first before after : Way) → i < length outs
    → out ≡ get_or outs i out
    → (ArePackets (map link_out_seen (take i outs)) → before ≡ with_written (map link_out_seen (take i outs)) first)
    → after.link ≡ before.link → after.to_core ≡ before.to_core
    → (IsPacketOut (link_out_seen out) → after.to_market
    ≡ before.to_market ++ written_to before.link (link_out_seen out))
    → ArePackets (map link_out_seen (take (i + 1) outs))
    → after ≡ with_written (map link_out_seen (take (i + 1) outs)) first
written-more outs i out first before after inside is so_far link core market all =
    let xs : List LinkOut = map link_out_seen (take i outs) in
    let more : map link_out_seen (take (i + 1) outs) ≡ xs ++ link_out_seen out ∷ [] = outs-more outs i out inside is in
    let parts : ArePackets xs × ArePackets (link_out_seen out ∷ []) =
    packets-parted xs (link_out_seen out ∷ []) (subst ArePackets more all) in
    written-step xs (link_out_seen out) first before after (so_far parts.0) link core (market parts.1.0)
    ∙ ap (λ (os : List LinkOut). with_written os first) (sym more)
