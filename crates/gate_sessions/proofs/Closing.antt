-- Links that are closed, and those that aren't.
use Rattle.std.proofs.Common.{◌≡◌, ◌==◌, ◌<◌, ◌+◌, eqb-true, ℕ, suc, zero, Bool, true, false, List, [], ◌∷◌, map}
use Rattle.std.proofs.Common.{length, get_or, Option, None, refl, sym, ap, ◌∙◌, arith}
use Rattle.std.specs.Prelude.{if◌then◌else◌, ◌||◌}
use Rattle.std.specs.List.{list_any}
use Rattle.gate_law.specs.Events.{LinkOut}
use Rattle.gate_law.specs.After.{unless_closed}
use Rattle.gate_sessions.specs.declared.client_line.ClientLine.{ClientLine}
use Rattle.gate_sessions.specs.declared.port_line.PortLine.{PortLine}
use Rattle.gate_sessions.specs.Lines.{ClientLinks, PortLinks, link_set}
use Rattle.gate_events.specs.Closing.{is_link_closed}
use Rattle.gate_sessions.specs.Links.{unlinked}

-- ---- the link of one number, closed or not

unless-true : (outs : List LinkOut) (link : Option ℕ) → is_link_closed link outs ≡ true → unless_closed outs link ≡ None
unless-true outs link e = rw e refl

unless-false : (outs : List LinkOut) (link : Option ℕ) → is_link_closed link outs ≡ false
    → unless_closed outs link ≡ link
unless-false outs link e = rw e refl

closed-at : (n m : ℕ) (outs : List LinkOut) (links : ℕ → Option ℕ) → is_link_closed (links n) outs ≡ true
    → link_set n None links m ≡ unlinked n outs links m
closed-at n m outs links e = by_test (m == n) refl
  where
    by_test : (b : Bool) → (m == n) ≡ b → (if b then None else links m)
        ≡ (if b then unless_closed outs (links m) else links m)
    by_test true is = sym (ap (λ k. unless_closed outs (links k)) (eqb-true m n is) ∙ unless-true outs (links n) e)
    by_test false is = refl

kept-at : (n m : ℕ) (outs : List LinkOut) (links : ℕ → Option ℕ) → is_link_closed (links n) outs ≡ false
    → links m ≡ unlinked n outs links m
kept-at n m outs links e = by_test (m == n) refl
  where
    by_test : (b : Bool) → (m == n) ≡ b → links m ≡ (if b then unless_closed outs (links m) else links m)
    by_test true is = ap links (eqb-true m n is)
        ∙ sym (ap (λ k. unless_closed outs (links k)) (eqb-true m n is) ∙ unless-false outs (links n) e)
    by_test false is = refl

pub client-closed : (n : ℕ) (outs : List LinkOut) (links : ℕ → Option ℕ) (lines : List ClientLine)
    → is_link_closed (links n) outs ≡ true → ClientLinks (link_set n None links) lines
    → ClientLinks (unlinked n outs links) lines
client-closed n outs links lines e are i line at = are i line at ∙ closed-at n (i + 1) outs links e

pub client-kept : (n : ℕ) (outs : List LinkOut) (links : ℕ → Option ℕ) (lines : List ClientLine)
    → is_link_closed (links n) outs ≡ false → ClientLinks links lines → ClientLinks (unlinked n outs links) lines
client-kept n outs links lines e are i line at = are i line at ∙ kept-at n (i + 1) outs links e

pub port-closed : (n : ℕ) (outs : List LinkOut) (links : ℕ → Option ℕ) (lines : List PortLine)
    → is_link_closed (links n) outs ≡ true → PortLinks (link_set n None links) lines
    → PortLinks (unlinked n outs links) lines
port-closed n outs links lines e are i line at = are i line at ∙ closed-at n (i + 1) outs links e

pub port-kept : (n : ℕ) (outs : List LinkOut) (links : ℕ → Option ℕ) (lines : List PortLine)
    → is_link_closed (links n) outs ≡ false → PortLinks links lines → PortLinks (unlinked n outs links) lines
port-kept n outs links lines e are i line at = are i line at ∙ kept-at n (i + 1) outs links e
