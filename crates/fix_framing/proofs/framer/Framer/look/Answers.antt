use Rattle.std.proofs.Common.{◌≡◌, ◌∙◌, ap, sym, subst, rules, ℕ, List, length, take}
use Rattle.std.specs.Prelude.{is_some, Option, ◌≤◌}
use Rattle.fix_fields.specs.Field.{Field}
use Rattle.fix_fields.specs.View.{lent_fields}
use Rattle.fix_fields.specs.Reading.{fields_of}
use Rattle.fix_framing.specs.Stream.{ReaderStanding, IsSeen}
use Rattle.fix_framing.proofs.Passing.{open_end, none_seen, seen_fields, size_there, first_of}
use Rattle.fix_framing.proofs.framer.Framer.look.Goals as goal

pub returns-in_default : goal.returns-in_default
returns-in_default c =
    let f = c.self.inside in
    let held = f.buffer.kept.held in
    let end = c.args.self.now.end in
    let is = open_end f.is_over held end (ap (λ (s : ReaderStanding). s.end) c.self.view_is) c.if-self.false in
    let seen = subst (λ (s : Option ℕ). IsSeen s end) c.in_default.is c.requires in
    let none = none_seen held end is seen in
    (none.0, (held, none.1))

pub split_at-requires : goal.split_at-requires
split_at-requires c =
    let f = c.self.inside in
    let end = c.args.self.now.end in
    let seen = subst (λ (s : Option ℕ). IsSeen s end) c.in-Some.is c.requires in
    let there = size_there c.in-Some.size f.is_over f.buffer.kept.held end
    (ap (λ (s : ReaderStanding). s.end) c.self.view_is) seen in
    subst (λ (b : List ℕ). c.in-Some.size ≤ length b) (sym c.held.ensures) there

pub known-requires : goal.known-requires
known-requires c =
    let f = c.self.inside in
    let held = f.buffer.kept.held in
    let end = c.args.self.now.end in
    let is = open_end f.is_over held end (ap (λ (s : ReaderStanding). s.end) c.self.view_is) c.if-self.false in
    let seen = subst (λ (s : Option ℕ). IsSeen s end) c.in-Some.is c.requires in
    let fields = seen_fields c.in-Some.size held end is seen in
    let text : c.split_at.result.0.now ≡ take c.in-Some.size held = search rules in
    ap (λ (t : List ℕ). is_some (fields_of t)) text ∙ ap (λ (o : Option (List Field)). is_some o) fields.1

pub returns : goal.returns
returns c =
    let f = c.self.inside in
    let held = f.buffer.kept.held in
    let end = c.args.self.now.end in
    let is = open_end f.is_over held end (ap (λ (s : ReaderStanding). s.end) c.self.view_is) c.if-self.false in
    let seen = subst (λ (s : Option ℕ). IsSeen s end) c.in-Some.is c.requires in
    let fields = seen_fields c.in-Some.size held end is seen in
    let text : c.split_at.result.0.now ≡ take c.in-Some.size held = search rules in
    first_of c.split_at.result.0.now (take c.in-Some.size held) fields.0
    (lent_fields c.known.result) _ _ text fields.1 c.known.ensures fields.2
