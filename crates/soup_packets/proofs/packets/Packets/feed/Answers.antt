use Rattle.std.proofs.Common.{◌≡◌, ◌++◌, Bool, List, [], length, subst, ap, arith, rules}
use Rattle.std.proofs.lemmas.List.{nil_from_length}
use Rattle.std.proofs.lemmas.Bool.Decides.{nat_tests}
use Rattle.soup_packets.specs.declared.packet.Packet.{Packet}
use Rattle.soup_packets.specs.Stream.{Stops, packets_written, BeginsEmpty, IsPartial}
use Rattle.soup_packets.proofs.Streams.{fed_taken, fed_of, fed_ended, fed_ended_more, fed_empty, ends_empty}
use Rattle.soup_packets.proofs.Streams.{are_packets, empty_held, not_partial, before_none, empty_more}
use Rattle.soup_packets.proofs.packets.Packets.feed.Goals as goal
use Rattle.soup_packets.proofs.packets.Packets.feed.Goals.{else-cut-via-then-cut+else-is_empty, else-cut-via-else-cut}

pub returns-then-is_over-clause-empty : goal.returns-then-is_over-clause-empty
returns-then-is_over-clause-empty c = λ e stream before f.
    let over : BeginsEmpty c.args.self.now.held = search rules in (
      fed_ended_more stream c.args.piece.now before c.args.self.now over f,
      empty_more stream c.args.piece.now before (fed_ended stream before c.args.self.now over f),
    )

pub returns-in_err-cut-clause-for_good : goal.returns-in_err-cut-clause-for_good
returns-in_err-cut-clause-for_good c = λ stream before f e.
    let open_ : BeginsEmpty c.args.self.now.held → ⊥ = search rules in
    absurd (open_ (fed_empty stream before c.args.self.now f e))

pub returns-then-is_empty-clause-empty : goal.returns-then-is_empty-clause-empty
returns-then-is_empty-clause-empty c = λ e stream before f.
    let open_ : BeginsEmpty c.args.self.now.held → ⊥ = search rules in
    let given = c.in_ok-cut.cut.packets.items in
    let len : length given ≡ 0 = grind (
      arith,
      nat_tests,
      c.is_empty.ensures,
      c.if-is_empty.true,
      c.in_ok-cut.cut.packets.ok,
    ) in
    let none : given ≡ [] = nil_from_length given len in
    let all = fed_taken stream c.args.piece.now before given c.args.self.now c.take.new.self open_
    c.in_ok-cut.ensures.whole f in
    let same : stream ++ c.args.piece.now ≡ packets_written before ++ c.take.new.self.held =
    subst (λ (ps : List Packet). stream ++ c.args.piece.now ≡ packets_written ps ++ c.take.new.self.held)
    (before_none before given none) all in
    let over : BeginsEmpty c.take.new.self.held =
    subst (λ (b : Bool). Stops b c.take.new.self.held) c.if-cut.true c.in_ok-cut.ensures.stops in (
      fed_of (stream ++ c.args.piece.now) before c.take.new.self same,
      ends_empty (stream ++ c.args.piece.now) before c.take.new.self.held same over,
    )

pub returns-clause-fed : goal.returns-clause-fed
returns-clause-fed c = λ stream before f.
    let open_ : BeginsEmpty c.args.self.now.held → ⊥ = search rules in
    let given = c.in_ok-cut.cut.packets.items in
    fed_of (stream ++ c.args.piece.now) (before ++ given) c.take.new.self
    (fed_taken stream c.args.piece.now before given c.args.self.now c.take.new.self open_ c.in_ok-cut.ensures.whole
    f)

pub returns-clause-packets : goal.returns-clause-packets
returns-clause-packets c = λ stream before f.
    let open_ : BeginsEmpty c.args.self.now.held → ⊥ = search rules in
    let given = c.in_ok-cut.cut.packets.items in
    are_packets c.in_ok-cut.cut.is_empty (stream ++ c.args.piece.now) (before ++ given) c.take.new.self.held
    (fed_taken stream c.args.piece.now before given c.args.self.now c.take.new.self open_ c.in_ok-cut.ensures.whole
    f) c.in_ok-cut.ensures.stops

pub returns-clause-goes_on : goal.returns-clause-goes_on
returns-clause-goes_on c = λ none stream before f e.
    let open_ : BeginsEmpty c.args.self.now.held → ⊥ = search rules in
    let given = c.in_ok-cut.cut.packets.items in
    let all = fed_taken stream c.args.piece.now before given c.args.self.now c.take.new.self open_
    c.in_ok-cut.ensures.whole f in
    let same : stream ++ c.args.piece.now ≡ packets_written before ++ c.take.new.self.held =
    subst (λ (ps : List Packet). stream ++ c.args.piece.now ≡ packets_written ps ++ c.take.new.self.held)
    (before_none before given none) all in
    let over = empty_held (stream ++ c.args.piece.now) before c.take.new.self.held same e in
    elim c.else-cut.branch [
      | else-cut-via-then-cut+else-is_empty w ↦
          let len : length c.in_ok-cut.cut.packets.items ≡ 0 = ap length none in
          absurd (grind (arith, nat_tests, w.is_empty.ensures, w.if-is_empty.false, c.in_ok-cut.cut.packets.ok))
      | else-cut-via-else-cut w ↦
          let partial : IsPartial c.take.new.self.held =
          subst (λ (b : Bool). Stops b c.take.new.self.held) w.if-cut.false c.in_ok-cut.ensures.stops in
          not_partial c.take.new.self.held partial over
    ]

pub returns-clause-for_good : goal.returns-clause-for_good
returns-clause-for_good c = λ stream before f e.
    let open_ : BeginsEmpty c.args.self.now.held → ⊥ = search rules in
    absurd (open_ (fed_empty stream before c.args.self.now f e))
