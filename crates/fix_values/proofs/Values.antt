-- A value is read as it was written, and its text has its format.
use Rattle.std.proofs.Common.{◌≡◌, true, false, ℕ, ◌^◌, ◌<◌, List, [], ◌∷◌, refl, ap, arith, decimal}
use Rattle.std.specs.Prelude.{Option, Some, None, IfSome, slice_index, ◌==◌}
use Rattle.std.specs.Char.{is_ascii_digit}
use Rattle.std.specs.List.{list_all}
use Rattle.std.specs.Option.{option_map}
use Rattle.std.proofs.lemmas.Bool.Decides.{nat_tests}
use Rattle.std.proofs.lemmas.Fmt.{digits_decimal}
use Rattle.wire_bytes.specs.Digits.{number_of}
use Rattle.wire_bytes.proofs.Numbers.{own}
use Rattle.fix_fields.proofs.Tags.{and_parts}
use Rattle.fix_values.specs.declared.format.Format.TheVariants as formats
use Rattle.fix_values.specs.declared.cxl_rej_response_to.CxlRejResponseTo.{CxlRejResponseTo}
use Rattle.fix_values.specs.declared.cxl_rej_response_to.CxlRejResponseTo.TheVariants as responses
use Rattle.fix_values.specs.declared.exec_type.ExecType.{ExecType}
use Rattle.fix_values.specs.declared.exec_type.ExecType.TheVariants as kinds
use Rattle.fix_values.specs.declared.ord_status.OrdStatus.{OrdStatus}
use Rattle.fix_values.specs.declared.ord_status.OrdStatus.TheVariants as statuses
use Rattle.fix_values.specs.Letters.{exec_letter, exec_type_of, status_letter, ord_status_of, response_letter}
use Rattle.fix_values.specs.Letters.{response_of}
use Rattle.fix_values.specs.Formats.{passes, is_none_text}
use Rattle.fix_values.specs.Slots.{char_text, number_text, order_id_text, order_id_of}
use Rattle.fix_values.proofs.Numbers.{number_of-decimal, is_number-decimal}

pub passes-char_text : (c : Option ℕ) → passes formats.Char (char_text c) ≡ true
passes-char_text None = refl
passes-char_text (Some b) = refl

pub char-char_text : (c : Option ℕ) → option_map (λ text. slice_index text 0) (char_text c) ≡ c
char-char_text None = refl
char-char_text (Some b) = refl

pub passes-number_text : (n : Option ℕ) → IfSome n (λ k. k < 2 ^ 64) → passes formats.Number (number_text n) ≡ true
passes-number_text None h = refl
passes-number_text (Some n) h = is_number-decimal n h

pub number-number_text : (n : Option ℕ) → IfSome n (λ k. k < 2 ^ 64)
    → option_map (λ text. number_of text) (number_text n) ≡ n
number-number_text None h = refl
number-number_text (Some n) h = ap (λ k. Some k) (number_of-decimal n h)

pub passes-exec_letter : (k : ExecType) → passes formats.ExecType (Some (exec_letter k ∷ [])) ≡ true
passes-exec_letter kinds.PendingNew = refl
passes-exec_letter kinds.New = refl
passes-exec_letter kinds.Rejected = refl
passes-exec_letter kinds.Canceled = refl
passes-exec_letter kinds.Restated = refl
passes-exec_letter kinds.Trade = refl
passes-exec_letter kinds.TradeCancel = refl
passes-exec_letter kinds.PendingCancel = refl
passes-exec_letter kinds.PendingReplace = refl
passes-exec_letter kinds.Replaced = refl

pub exec_type_of-letter : (k : ExecType) → exec_type_of (exec_letter k) ≡ k
exec_type_of-letter kinds.PendingNew = refl
exec_type_of-letter kinds.New = refl
exec_type_of-letter kinds.Rejected = refl
exec_type_of-letter kinds.Canceled = refl
exec_type_of-letter kinds.Restated = refl
exec_type_of-letter kinds.Trade = refl
exec_type_of-letter kinds.TradeCancel = refl
exec_type_of-letter kinds.PendingCancel = refl
exec_type_of-letter kinds.PendingReplace = refl
exec_type_of-letter kinds.Replaced = refl

pub passes-status_letter : (k : OrdStatus) → passes formats.OrdStatus (Some (status_letter k ∷ [])) ≡ true
passes-status_letter statuses.PendingNew = refl
passes-status_letter statuses.New = refl
passes-status_letter statuses.PartiallyFilled = refl
passes-status_letter statuses.Filled = refl
passes-status_letter statuses.Canceled = refl
passes-status_letter statuses.PendingCancel = refl
passes-status_letter statuses.Rejected = refl
passes-status_letter statuses.PendingReplace = refl

pub status_of-letter : (k : OrdStatus) → ord_status_of (status_letter k) ≡ k
status_of-letter statuses.PendingNew = refl
status_of-letter statuses.New = refl
status_of-letter statuses.PartiallyFilled = refl
status_of-letter statuses.Filled = refl
status_of-letter statuses.Canceled = refl
status_of-letter statuses.PendingCancel = refl
status_of-letter statuses.Rejected = refl
status_of-letter statuses.PendingReplace = refl

pub passes-response_letter : (k : CxlRejResponseTo)
    → passes formats.CxlRejResponseTo (Some (response_letter k ∷ [])) ≡ true
passes-response_letter responses.Cancel = refl
passes-response_letter responses.Replace = refl

pub response_of-letter : (k : CxlRejResponseTo) → response_of (response_letter k) ≡ k
response_of-letter responses.Cancel = refl
response_of-letter responses.Replace = refl

-- digits aren't NONE
not_n : (d : ℕ) → is_ascii_digit d ≡ true → (d == 78) ≡ false
not_n d h = grind (arith, nat_tests)

digits_not_none : (ds : List ℕ) → list_all is_ascii_digit ds ≡ true → is_none_text ds ≡ false
digits_not_none [] h = refl
digits_not_none (d ∷ ds) h = let p = and_parts (is_ascii_digit d) (list_all is_ascii_digit ds) h in
    rw (not_n d p.0) refl

not_none-decimal : (n : ℕ) → n < 2 ^ 64 → is_none_text (decimal n) ≡ false
not_none-decimal n h = digits_not_none (decimal n) (digits_decimal own n h)

pub passes-order_id_text : (o : Option ℕ) → IfSome o (λ n. n < 2 ^ 64)
    → passes formats.OrderId (Some (order_id_text o)) ≡ true
passes-order_id_text None h = refl
passes-order_id_text (Some n) h = rw (not_none-decimal n h, is_number-decimal n h) refl

pub order_id_of-text : (o : Option ℕ) → IfSome o (λ n. n < 2 ^ 64) → order_id_of (order_id_text o) ≡ o
order_id_of-text None h = refl
order_id_of-text (Some n) h = rw (not_none-decimal n h, number_of-decimal n h) refl
