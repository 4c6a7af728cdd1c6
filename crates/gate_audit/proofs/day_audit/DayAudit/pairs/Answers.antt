use Rattle.std.proofs.Common.{rules, ◌≡◌, ◌∙◌, List, length, reverse, ap, subst, arith, Err}
use Rattle.std.specs.Prelude.{IsErrOf}
use Rattle.std.specs.List.{All}
use Rattle.order_accounts.specs.declared.reading_fault.ReadingFault.{ReadingFault}
use Rattle.order_accounts.specs.declared.reading_fault.ReadingFault.TheVariants.{TooLarge}
use Rattle.gate_law.specs.Settings.{ClientSettings, Settings}
use Rattle.gate_core.specs.gate_settings.Kept.{IsOnPort}
use Rattle.gate_core.proofs.soup_session.Closes.{ends_by_close}
use Rattle.gate_audit.specs.Pairs as read
use Rattle.gate_audit.specs.Pairs.{OpenedOrder, opened_orders}
use Rattle.gate_audit.specs.Passes.{told_whole}
use Rattle.gate_audit.proofs.Pairing.{orders-ascend, pairs-same}
use Rattle.gate_audit.proofs.Whole.{all-held, are-held, fix-are, fix_opened, held-all, held-are, pairs-read}
use Rattle.gate_audit.proofs.Whole.{said-are, said_opened, same-tokens}
use Rattle.gate_audit.proofs.day_audit.DayAudit.pairs.Goals as goal

pub returns-clause-read : goal.returns-clause-read
returns-clause-read c = λ h is.
    let s : Settings = c.args.settings.now in
    let are_openings : c.as_slice-orders.result.now ≡ reverse (opened_orders (told_whole h)) =
    c.as_slice-orders.ensures.value ∙ is.openings.orders in
    let is_many : length c.clients-clients.result.now ≡ length s.clients =
    ap (λ (xs : List ClientSettings). length xs) c.clients-clients.ensures.clients in
    let rows : c.as_slice.result.now ≡ fix_opened s h =
    c.as_slice.ensures.value ∙ fix-are s h c.as_slice-orders.result.now (length c.clients-clients.result.now)
    c.in_ok-fix.fix.items are_openings is_many (c.in_ok-fix.ensures.read (told_whole h) (c.shrink.ensures (told_whole h) is.readings)) in
    let said : c.as_slice-2.result.now ≡ said_opened s h =
    c.as_slice-2.ensures.value ∙ said-are s h c.args.self.openings.orders.items c.in_ok-said.said.items
    is.openings.orders (c.in_ok-said.ensures h is.ports) in
    let made : c.in_ok-paired.field-0.items ≡ read.pairs s h =
    c.in_ok-paired.ensures ∙ pairs-read s h c.as_slice-orders.result.now (length c.clients-clients.result.now)
    c.as_slice.result.now c.as_slice-2.result.now are_openings is_many rows said in
    made

pub returns-clause-run : goal.returns-clause-run
returns-clause-run c = λ h is holds.
    let s : Settings = c.args.settings.now in
    let are_openings : c.as_slice-orders.result.now ≡ reverse (opened_orders (told_whole h)) =
    c.as_slice-orders.ensures.value ∙ is.openings.orders in
    let is_many : length c.clients-clients.result.now ≡ length s.clients =
    ap (λ (xs : List ClientSettings). length xs) c.clients-clients.ensures.clients in
    let rows : c.as_slice.result.now ≡ fix_opened s h =
    c.as_slice.ensures.value ∙ fix-are s h c.as_slice-orders.result.now (length c.clients-clients.result.now)
    c.in_ok-fix.fix.items are_openings is_many (c.in_ok-fix.ensures.read (told_whole h) (c.shrink.ensures (told_whole h) is.readings)) in
    let said : c.as_slice-2.result.now ≡ said_opened s h =
    c.as_slice-2.ensures.value ∙ said-are s h c.args.self.openings.orders.items c.in_ok-said.said.items
    is.openings.orders (c.in_ok-said.ensures h is.ports) in
    let made : c.in_ok-paired.field-0.items ≡ read.pairs s h =
    c.in_ok-paired.ensures ∙ pairs-read s h c.as_slice-orders.result.now (length c.clients-clients.result.now)
    c.as_slice.result.now c.as_slice-2.result.now are_openings is_many rows said in
    let ports : All (IsOnPort (length s.ports)) s.clients =
    subst (λ (cs : List ClientSettings). All (IsOnPort (length s.ports)) cs) c.clients-clients.ensures.clients
    c.clients-clients.ensures.ports in
    made ∙ pairs-same ends_by_close s h ports holds

pub returns-clause-held : goal.returns-clause-held
returns-clause-held c = λ h is.
    let s : Settings = c.args.settings.now in
    let are_openings : c.as_slice-orders.result.now ≡ reverse (opened_orders (told_whole h)) =
    c.as_slice-orders.ensures.value ∙ is.openings.orders in
    let is_many : length c.clients-clients.result.now ≡ length s.clients =
    ap (λ (xs : List ClientSettings). length xs) c.clients-clients.ensures.clients in (
      all-held s h (held-are s h c.as_slice-orders.result.now (length c.clients-clients.result.now) are_openings is_many
          (c.in_ok-fix.ensures.held (told_whole h) (c.shrink.ensures (told_whole h) is.readings))),
      omega (arith, is.openings.few, same-tokens h),
    )

pub returns-clause-ascending : goal.returns-clause-ascending
returns-clause-ascending c = λ h. orders-ascend c.args.settings.now h

pub returns-in_err-fix-clause-large : goal.returns-in_err-fix-clause-large
returns-in_err-fix-clause-large c err = λ h is held.
    let s : Settings = c.args.settings.now in
    let are_openings : c.as_slice-orders.result.now ≡ reverse (opened_orders (told_whole h)) =
    c.as_slice-orders.ensures.value ∙ is.openings.orders in
    let is_many : length c.clients-clients.result.now ≡ length s.clients =
    ap (λ (xs : List ClientSettings). length xs) c.clients-clients.ensures.clients in
    let own_error : IsErrOf {E = ReadingFault} (Err c.in_err-fix.field-0.0) TooLarge =
    search (rules, c.from_residual.ensures, err) in
    c.in_err-fix.ensures.large own_error (told_whole h) (c.shrink.ensures (told_whole h) is.readings)
    (are-held s h c.as_slice-orders.result.now (length c.clients-clients.result.now) are_openings is_many (held-all s h held))

pub returns-then-len-ports-clause-ascending : goal.returns-then-len-ports-clause-ascending
returns-then-len-ports-clause-ascending c = λ h. orders-ascend c.args.settings.now h
