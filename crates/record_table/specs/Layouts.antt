-- What the chains of a layout hold together.
use Rattle.std.specs.Prelude.{◌≡◌, ℕ, zero, suc, ◌+◌, ◌<◌, ◌≤◌, true, false, cond, ◌&&◌, List, [], ◌∷◌, length, Some, None, Option, ◌==◌, ◌≢◌, refl}
use Rattle.std.proofs.Common.{sym, ap, subst, ◌∙◌, ⊎_elim, arith}
use Rattle.std.proofs.lemmas.Bool.{cases_Bool}
use Rattle.std.proofs.lemmas.Bool.Decides.{nat_tests}
use Rattle.access.specs.Policy.{with_pair}
use Rattle.access.specs.Contexts.{both_inside}
use Rattle.access.specs.Sound.{some, row, pairs}
use Rattle.access.proofs.Pairs.{row_alike, row_with, row_none, row_most, pairs_alike, pairs_with}
use Rattle.access.proofs.Settings.{pair_inside, pair_parts}
use Rattle.record_table.specs.declared.chains.Record.{Record}
use Rattle.record_table.specs.Chains.{found, operations_at}
use Rattle.record_table.specs.Laid.{Out, look, Tidy, held_by, Laid}
use Rattle.record_table.specs.TableMeaning.{written_of, Pair}
use Rattle.record_table.specs.ChainsLemmas.{out_owned, in_owner, has_first, look_in, look_known, Found, found_is}

pub some_one : (o : ℕ) → 1 ≤ o → some o ≡ 1
some_one zero h = absurd (omega arith)
some_one (suc o) h = refl

-- a chain has as many records as targets with a set
row_length : (n s : ℕ) (mem : ℕ → Record) (ys : List ℕ) → Tidy n mem ys → row (λ _ t. look mem t ys) s n ≡ length ys
row_length n s mem [] k = row_none (λ _ t. 0) s n (λ y. refl)
row_length n s mem (y ∷ ys) k =
    let same : row (λ _ t. look mem t (y ∷ ys)) s n ≡ row (with_pair (λ _ t. look mem t ys) s (mem y).target (mem y).operations.bits) s n =
    row_alike (λ _ t. look mem t (y ∷ ys)) (with_pair (λ _ t. look mem t ys) s (mem y).target (mem y).operations.bits) s n (λ z l h. grind (arith, nat_tests)) in
    let one = row_with (λ _ t. look mem t ys) s (mem y).target (mem y).operations.bits n k.0.0 k.0.1 in
    let old : some (look mem (mem y).target ys) ≡ 0 = ap some k.1 in
    let new : some (mem y).operations.bits ≡ 1 = some_one (mem y).operations.bits k.0.2 in
    let rest : row (λ _ t. look mem t ys) s n ≡ length ys = row_length n s mem ys k.2 in
    omega (arith, same, one, old, new, rest)

module _ (n : ℕ) (first : ℕ → ℕ) (mem : ℕ → Record) (l : Laid n first mem) where
  pub chain_short : (c : ℕ) → 1 ≤ c → c ≤ n → length (l.chains c) ≤ 1024
  chain_short c low high =
      let a : row (held_by mem l.chains) c n ≡ row (λ _ t. look mem t (l.chains c)) c n = row_alike (held_by mem l.chains) (λ _ t. look mem t (l.chains c)) c n (λ y p q. refl) in
      let b : row (λ _ t. look mem t (l.chains c)) c n ≡ length (l.chains c) = row_length n c mem (l.chains c) (l.tidy c low high) in
      let d : row (held_by mem l.chains) c n ≤ pairs (held_by mem l.chains) n n = row_most (held_by mem l.chains) c n n low high in
      omega (arith, a, b, d, l.counted)

  -- the lookup finds what the chain holds
  pub find_is : (s t : ℕ) → 1 ≤ s → s ≤ n → Found mem t (l.chains s) (found mem t (first s))
  find_is s t low high = found_is 1024 mem l.owner s (first s) t (l.chains s) (chain_short s low high) (l.linked s high)

  found_operations : (t : ℕ) (ys : List ℕ) (o : Option ℕ) → Found mem t ys o → operations_at mem o ≡ look mem t ys
  found_operations t ys None f = sym f
  found_operations t ys (Some i) f = f.2

  held_is : (s t : ℕ) → 1 ≤ s → s ≤ n → operations_at mem (found mem t (first s)) ≡ held_by mem l.chains s t
  held_is s t low high = found_operations t (l.chains s) (found mem t (first s)) (find_is s t low high)

  pub written_is : (s t : ℕ) → Pair n s t → written_of n first mem s t ≡ held_by mem l.chains s t
  written_is s t at = rw (pair_inside n s t at.0 at.1 at.2 at.3) (held_is s t at.0 at.1)

  pub filled_is : pairs (written_of n first mem) n n + length (l.chains 0) ≡ 1024
  filled_is =
      let a : pairs (written_of n first mem) n n ≡ pairs (held_by mem l.chains) n n = pairs_alike (written_of n first mem) (held_by mem l.chains) n n (λ x y p q r s. written_is x y (p, q, r, s)) in
      omega (arith, a, l.counted)

  pub known_all : (s t : ℕ) → written_of n first mem s t < 4096
  known_all s t = ⊎_elim
      (λ y. let p = pair_parts n s t y in rw (y, held_is s t p.0 p.1) (look_known n mem t (l.chains s) (l.tidy s p.0 p.1)))
      (λ y. rw y (omega arith))
      (cases_Bool (both_inside n s t))

  -- a pair that has a record
  module _ (s t i : ℕ) (at : Pair n s t) (e : found mem t (first s) ≡ Some i) where
    pub held_at : Found mem t (l.chains s) (Some i)
    held_at = subst (Found mem t (l.chains s)) e (find_is s t at.0 at.1)

    pub held_some : 1 ≤ look mem t (l.chains s)
    held_some = subst (λ (z : ℕ). 1 ≤ look mem z (l.chains s)) held_at.1 (look_in n mem i (l.chains s) (l.tidy s at.0 at.1) held_at.0)

    pub held_first : 1 ≤ first s
    held_first = has_first mem l.owner s (first s) i (l.chains s) (l.linked s at.1) held_at.0

    pub held_away : (c : ℕ) → c ≤ n → (c ≢ s) → Out i (l.chains c)
    held_away c h ns = out_owned mem l.owner c (first c) i (l.chains c) (l.linked c h) (λ q. ns (sym q ∙ in_owner mem l.owner s (first s) i (l.chains s) (l.linked s at.1) held_at.0))

-- chains hold what those of a layout hold, but for one pair
abbrev pub Holds : (n : ℕ) (first : ℕ → ℕ) (mem : ℕ → Record) → Laid n first mem → ℕ → ℕ → ℕ → (ℕ → Record) → (ℕ → List ℕ) → Type 0
Holds n first mem l s t v new chains = (c : ℕ) → 1 ≤ c → c ≤ n → (y : ℕ) → held_by new chains c y ≡ with_pair (held_by mem l.chains) s t v c y

-- there is such a layout
abbrev pub Effect : (n : ℕ) (first : ℕ → ℕ) (mem : ℕ → Record) → Laid n first mem → ℕ → ℕ → ℕ → (ℕ → ℕ) → (ℕ → Record) → Type 0
Effect n first mem l s t v now_first new = (m : Laid n now_first new) × Holds n first mem l s t v new m.chains

module _ (n : ℕ) (first : ℕ → ℕ) (mem : ℕ → Record) (l : Laid n first mem) (s t v : ℕ) (at : Pair n s t) where
  pub written_after : (now_first : ℕ → ℕ) (new : ℕ → Record) → Effect n first mem l s t v now_first new → (x y : ℕ) → written_of n now_first new x y ≡ with_pair (written_of n first mem) s t v x y
  written_after now_first new e x y = ⊎_elim within beyond (cases_Bool (both_inside n x y))
    where
      within : both_inside n x y ≡ true → written_of n now_first new x y ≡ with_pair (written_of n first mem) s t v x y
      within h =
          let p = pair_parts n x y h in
          written_is n now_first new e.0 x y p ∙ e.1 x p.0 p.1 y ∙ ap (λ (z : ℕ). cond (x == s && y == t) v z) (sym (written_is n first mem l x y p))

      beyond : both_inside n x y ≡ false → written_of n now_first new x y ≡ with_pair (written_of n first mem) s t v x y
      beyond h =
          let here = pair_inside n s t at.0 at.1 at.2 at.3 in
          rw h (grind (arith, nat_tests))

  -- how many pairs are held after it
  pub pairs_after : (new : ℕ → Record) (chains : ℕ → List ℕ) → Holds n first mem l s t v new chains → pairs (held_by new chains) n n + some (held_by mem l.chains s t) ≡ pairs (held_by mem l.chains) n n + some v
  pairs_after new chains e =
      let a : pairs (held_by new chains) n n ≡ pairs (with_pair (held_by mem l.chains) s t v) n n = pairs_alike (held_by new chains) (with_pair (held_by mem l.chains) s t v) n n (λ x y p q r h. e x p q y) in
      let b = pairs_with (held_by mem l.chains) s t v n n at.0 at.1 at.2 at.3 in
      omega (arith, a, b)
