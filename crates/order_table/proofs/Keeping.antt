-- What holds of the lists with the sums of clients still holds after each of the table's calls.
use Rattle.std.proofs.Common.{◌≡◌, ℕ, ◌+◌, ◌<◌, ◌≤◌, ◌^◌, true, List, [], ◌∷◌, ◌++◌, length, sym, subst, ap, ◌∙◌, arith}
use Rattle.std.proofs.Common.{length-append, slice_get, slice_set}
use Rattle.std.specs.Prelude.{◌==◌, nat_lt, Some}
use Rattle.std.specs.List.{list_all}
use Rattle.std.proofs.lemmas.List.Sums.{sum_by_push}
use Rattle.undo_orders.specs.orders.order_law.History.{Entry}
use Rattle.order_machine.specs.OrderRecord.{OrderRecord}
use Rattle.order_machine.specs.Table.{GivenToken, is_replacement_of}
use Rattle.order_table.specs.declared.sums.Sums.{Sums}
use Rattle.order_table.specs.Held.{IsCounted, is_placed, tokens_had}
use Rattle.order_table.specs.Sums.{AreSums, AreSumsOf, IsExchanged, is_small, no_sums, sums_at, sums_of}
use Rattle.order_table.proofs.Changing.{length-written}
use Rattle.order_table.proofs.Counted.{added, all-at, all-push, all-set, kept, replacing}
use Rattle.order_table.proofs.Summed.{as-much, exchanged, inside, placed-in-more, sum-set, summed-in}

-- sums that are the same, in more places
pub same-sums : (os : List OrderRecord) (sums more : List Sums)
    → ((other : ℕ) → sums_at more other ≡ sums_at sums other)
    → AreSums sums os → AreSums more os
same-sums os sums more same are = λ other. subst (AreSumsOf os other) (sym (same other)) (are other)

-- more places
pub counted-longer : (ts : List GivenToken) (sums more : List Sums) (os : List OrderRecord) → IsCounted ts sums os
    → length sums ≤ length more → ((other : ℕ) → sums_at more other ≡ sums_at sums other) → IsCounted ts more os
counted-longer ts sums more os is longer same = record {
  had = is.had;
  by_client = same-sums os sums more same is.by_client;
  placed = placed-in-more (length sums) (length more) os longer is.placed;
  small = is.small;
  given = is.given;
  few_tokens = is.few_tokens;
  few_orders = is.few_orders;
}

-- one order more, and its token
pub counted-added : (ts : List GivenToken) (t : GivenToken) (sums more now : List Sums) (os : List OrderRecord)
    (o : OrderRecord) (client : ℕ) (was becomes : Sums) → IsCounted ts sums os → length sums ≤ length more
    → ((other : ℕ) → sums_at more other ≡ sums_at sums other) → client < length more → length now ≡ length more
    → ((other : ℕ) → IsExchanged (client == other) was becomes (sums_at more other) (sums_at now other))
    → client ≡ o.new.client → was ≡ no_sums → becomes ≡ sums_of o → is_small o ≡ true → tokens_had o ≤ 1
    → length (ts ++ t ∷ []) < 2 ^ 64 → length (os ++ o ∷ []) < 2 ^ 64
    → IsCounted (ts ++ t ∷ []) now (os ++ o ∷ [])
counted-added ts t sums more now os o client was becomes is longer same there places done of_client none comes small had
    few few_orders =
    record {
      had = added ts t os o is.had had;
      by_client = summed-in more now os o client was becomes (same-sums os sums more same is.by_client) none done
          of_client comes;
      placed = all-push (is_placed (length now)) os o
          (placed-in-more (length sums) (length now) os (omega (arith, longer, places)) is.placed)
          (inside o.new.client (length now) (omega (arith, of_client, there, places)));
      small = all-push is_small os o is.small small;
      given = omega (arith, is.given, had, sum_by_push tokens_had os o, length-append ts (t ∷ []));
      few_tokens = few;
      few_orders = few_orders;
    }

module _ (ts : List GivenToken) (sums : List Sums) (os : List OrderRecord) (i : ℕ) (o p : OrderRecord) (is : IsCounted ts sums os) (at_i : slice_get os i ≡ Some o) (same : p.new ≡ o.new) where
  still-placed : list_all (is_placed (length sums)) (slice_set os i p) ≡ true
  still-placed = all-set (is_placed (length sums)) os i p is.placed
      (ap (λ (e : Entry). nat_lt e.client (length sums)) same
      ∙ all-at (is_placed (length sums)) os i o is.placed at_i)

  few-still : length (slice_set os i p) < 2 ^ 64
  few-still = omega (arith, length-written os i p, is.few_orders)

  -- an order that was changed
  pub counted-changed : (now : List Sums) (client : ℕ) (was becomes : Sums) → length now ≡ length sums
      → ((other : ℕ) → IsExchanged (client == other) was becomes (sums_at sums other) (sums_at now other))
      → client ≡ o.new.client → was ≡ sums_of o → becomes ≡ sums_of p → is_small p ≡ true
      → tokens_had p ≤ tokens_had o → IsCounted ts now (slice_set os i p)
  counted-changed now client was becomes places done of_client came comes small had = record {
    had = kept ts os i o p is.had at_i same had;
    by_client = exchanged sums now os i o p client was becomes is.by_client done at_i of_client same came comes;
    placed = ap (λ n. list_all (is_placed n) (slice_set os i p)) places ∙ still-placed;
    small = all-set is_small os i p is.small small;
    given = omega (arith, is.given, had, sum-set tokens_had os i o p at_i);
    few_tokens = is.few_tokens;
    few_orders = few-still;
  }

  -- an order on which a request is pending, and which comes to the same
  module _ (alike : sums_of p ≡ sums_of o) (as_small : is_small p ≡ is_small o) where
    pub counted-asked : tokens_had p ≤ tokens_had o → IsCounted ts sums (slice_set os i p)
    counted-asked had = record {
      had = kept ts os i o p is.had at_i same had;
      by_client = as-much sums os i o p is.by_client at_i same alike;
      placed = still-placed;
      small = all-set is_small os i p is.small (as_small ∙ all-at is_small os i o is.small at_i);
      given = omega (arith, is.given, had, sum-set tokens_had os i o p at_i);
      few_tokens = is.few_tokens;
      few_orders = few-still;
    }

    -- a replace, which was given a token
    pub counted-replacing : (t : GivenToken) → is_replacement_of o.new.order t ≡ true
        → tokens_had p ≤ tokens_had o + 1 → length (ts ++ t ∷ []) < 2 ^ 64
        → IsCounted (ts ++ t ∷ []) sums (slice_set os i p)
    counted-replacing t own had few = record {
      had = replacing ts t os i o p is.had at_i same own had;
      by_client = as-much sums os i o p is.by_client at_i same alike;
      placed = still-placed;
      small = all-set is_small os i p is.small (as_small ∙ all-at is_small os i o is.small at_i);
      given = omega
          (arith, is.given, had, sum-set tokens_had os i o p at_i, length-append ts (t ∷ []));
      few_tokens = few;
      few_orders = few-still;
    }
