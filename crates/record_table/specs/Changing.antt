-- The record that a pair has gets other operations.
use Rattle.std.specs.Prelude.{◌≡◌, ℕ, ◌<◌, ◌≤◌, Some, refl}
use Rattle.std.proofs.Common.{⊎_elim, arith}
use Rattle.std.proofs.lemmas.Bool.{cases_eq, ne_eqb}
use Rattle.std.proofs.lemmas.Bool.Decides.{nat_tests}
use Rattle.access.specs.Policy.{with_pair}
use Rattle.record_table.specs.declared.chains.Record.{Record}
use Rattle.record_table.specs.Chains.{found, with_operations}
use Rattle.record_table.specs.Laid.{look, Fit, Tidy, held_by, Laid}
use Rattle.record_table.specs.TableMeaning.{Pair}
use Rattle.record_table.specs.ChainsLemmas.{upd, linked_same, read_same, look_out, tidy_out, look_put, tidy_put}
use Rattle.record_table.specs.Layouts.{some_one, held_at, held_some, held_away, Holds, Effect, pairs_after}

module _ (n : ℕ) (first : ℕ → ℕ) (mem : ℕ → Record) (l : Laid n first mem) (s t v i : ℕ) (at : Pair n s t) (v1 : 1 ≤ v) (known : v < 4096) (e : found mem t (first s) ≡ Some i) where
  abbrev r : Record
  r = with_operations (mem i) v

  abbrev new : ℕ → Record
  new = upd mem i r

  target_is : (mem i).target ≡ t
  target_is = (held_at n first mem l s t i at e).1

  holds_there : (y : ℕ) → look new y (l.chains s) ≡ with_pair (held_by mem l.chains) s t v s y
  holds_there y =
      let p = look_put n mem l.owner s i r refl (first s) (l.chains s) (l.linked s at.1) (l.tidy s at.0 at.1) (held_at n first mem l s t i at e).0 y in
      let q : (mem i).target ≡ t = target_is in
      grind (arith, nat_tests)

  holds : Holds n first mem l s t v new l.chains
  holds c low high y = ⊎_elim
      (λ q. rw q (holds_there y))
      (λ q. rw (ne_eqb c s q) (look_out mem i r y (l.chains c) (held_away n first mem l s t i at e c high q)))
      (cases_eq c s)

  fit : Fit n r
  fit = (omega (arith, target_is, at.2), omega (arith, target_is, at.3), v1, known)

  tidy_there : Tidy n new (l.chains s)
  tidy_there = tidy_put n mem l.owner s i r refl (first s) (l.chains s) (l.linked s at.1) (l.tidy s at.0 at.1) (held_at n first mem l s t i at e).0 fit

  pub changed : Effect n first mem l s t v first (upd mem i (with_operations (mem i) v))
  changed = (
    record {
      chains = l.chains;
      owner = l.owner;
      linked = λ c h. linked_same mem new l.owner (read_same mem i r (λ x. x.next) refl) c (first c) (l.chains c) (l.linked c h);
      tidy = λ c low high. ⊎_elim
          (λ q. rw q tidy_there)
          (λ q. tidy_out mem i r n (l.chains c) (held_away n first mem l s t i at e c high q) (l.tidy c low high))
          (cases_eq c s);
      whole = l.whole;
      counted = omega (arith, pairs_after n first mem l s t v at new l.chains holds, some_one v v1, some_one (look mem t (l.chains s)) (held_some n first mem l s t i at e), l.counted);
    },
    holds,
  )
