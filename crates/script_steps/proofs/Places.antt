-- The links of clients by their places.
use Rattle.std.proofs.Common.{◌≡◌, ℕ, List, [], ◌∷◌, length, slice_set, refl, arith}
use Rattle.script_lines.specs.declared.client.Client.{Client}
use Rattle.script_lines.specs.declared.client.Client.TheVariants.{First, Second, Third}
use Rattle.script_lines.specs.Names.{client_index}
use Rattle.script_steps.specs.declared.links.ClientLink.{ClientLink}
use Rattle.script_steps.specs.Events.{client_link}

-- a link that is put at a client's place is the client's
pub client-set : (links : List ClientLink) (i : ℕ) (link : ClientLink) (c : Client) → length links ≡ 3
    → i ≡ client_index c
    → link.number ≡ client_link (slice_set links i link) c
client-set (a ∷ b ∷ d ∷ []) i link First count place = rw place refl
client-set (a ∷ b ∷ d ∷ []) i link Second count place = rw place refl
client-set (a ∷ b ∷ d ∷ []) i link Third count place = rw place refl
client-set (a ∷ b ∷ d ∷ e ∷ more) i link c count place = absurd (omega (arith, count))
client-set (a ∷ b ∷ []) i link c count place = absurd (omega (arith, count))
client-set (a ∷ []) i link c count place = absurd (omega (arith, count))
client-set [] i link c count place = absurd (omega (arith, count))
