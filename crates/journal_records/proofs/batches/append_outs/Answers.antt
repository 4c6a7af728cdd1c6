use Rattle.std.proofs.Common.{◌≡◌, ◌<◌, ◌+◌, List, ℕ, ◌∷◌, [], ◌++◌, length, get_or, take, sym, ap, ◌∙◌}
use Rattle.std.specs.Prelude.{map}
use Rattle.std.proofs.lemmas.List.{map-append, take_more}
use Rattle.gate_law.specs.Events as law
use Rattle.gate_events.specs.declared.batch.LinkOut.{LinkOut}
use Rattle.gate_events.specs.Seen.{link_out_seen}
use Rattle.journal_pages.specs.Record.{Record}
use Rattle.journal_days.specs.Cut.{with_records}
use Rattle.journal_records.specs.Parts.{out_record}
use Rattle.journal_records.proofs.More.{both-parts, more-by}
use Rattle.journal_records.proofs.Behind.{writable-of}
use Rattle.journal_records.proofs.batches.append_outs.Goals as goal

told-more : (f : law.LinkOut → Record) (a b c : List (List ℕ)) (outs : List LinkOut) (i : ℕ) (o : LinkOut)
    → i < length outs → o ≡ get_or outs i o
    → b ≡ with_records a (map f (map link_out_seen (take i outs))) → c ≡ with_records b (f (link_out_seen o) ∷ [])
    → c ≡ with_records a (map f (map link_out_seen (take (i + 1) outs)))
told-more f a b c outs i o inside is first later =
    let some : List LinkOut = take i outs in
    both-parts a b c (map f (map link_out_seen some)) (f (link_out_seen o) ∷ []) first later
    ∙ ap (with_records a) (
    sym (map-append f (map link_out_seen some) (link_out_seen o ∷ []))
    ∙ ap (map f) (sym (map-append link_out_seen some (o ∷ [])))
    ∙ ap (λ (y : LinkOut). map f (map link_out_seen (some ++ y ∷ []))) is
    ∙ ap (λ (l : List LinkOut). map f (map link_out_seen l)) (sym (take_more outs i o inside)))

pub loop-told-preserved : goal.loop-told-preserved
loop-told-preserved c =
    told-more (out_record c.args.write c.args.close c.args.at c.args.source) c.args.out.now c.loop-told.out
    c.append_out.new.out c.args.outs.now c.loop-told.told-index c.told-item.result
    c.loop-told-test.true c.told-item.is c.loop-told.invariant c.in_ok-append_out.ensures.ok

pub returns-in_err-append_out-clause-kept : goal.returns-in_err-append_out-clause-kept
returns-in_err-append_out-clause-kept c =
    more-by c.args.out.now c.append_out.new.out
    (map (out_record c.args.write c.args.close c.args.at c.args.source)
    (map link_out_seen (take c.loop-told.told-index c.args.outs.now)))
    (c.in_err-append_out.ensures.err ∙ c.loop-told.invariant)

pub returns-clause-kept : goal.returns-clause-kept
returns-clause-kept c =
    more-by c.args.out.now c.loop-told.out (map (out_record c.args.write c.args.close c.args.at c.args.source)
    (map link_out_seen (take c.loop-told.told-index c.args.outs.now))) c.loop-told.invariant

pub append_out-requires : goal.append_out-requires
append_out-requires c =
    writable-of (out_record c.args.write c.args.close c.args.at c.args.source) link_out_seen c.args.outs.now
    c.loop-told.told-index c.told-item.result c.loop-told-test.true c.told-item.is c.requires
