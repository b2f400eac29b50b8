-- The first unused record goes to a pair that has none.
use Rattle.std.specs.Prelude.{◌≡◌, ℕ, suc, ◌<◌, ◌≤◌, List, ◌∷◌, length, None, ◌≢◌, refl}
use Rattle.std.proofs.Common.{sym, ap, subst, ◌∙◌, arith}
use Rattle.std.proofs.lemmas.Bool.{eq-eqb, ne_eqb}
use Rattle.std.proofs.lemmas.Bool.Decides.{nat_tests}
use Rattle.access.specs.Policy.{with_pair}
use Rattle.access.specs.Sound.{some}
use Rattle.record_table.specs.declared.chains.Record.{Record}
use Rattle.record_table.specs.Chains.{found, entry}
use Rattle.record_table.specs.Laid.{Out, Linked, look, Tidy, held_by, Laid}
use Rattle.record_table.specs.TableMeaning.{Pair}
use Rattle.record_table.specs.ChainsLemmas.{upd, Found, begins, look_out, tidy_out}
use Rattle.record_table.specs.Unlinking.{without}
use Rattle.record_table.specs.Layouts.{some_one, find_is, Holds, Effect, pairs_after}
use Rattle.record_table.specs.Moving.{came, split, taken, out_other, at_from, at_to, at_other, moved, moved_whole}

module _ (n : ℕ) (first : ℕ → ℕ) (mem : ℕ → Record) (l : Laid n first mem) (s t v : ℕ) (at : Pair n s t) (v1 : 1 ≤ v) (known : v < 4096) (room : 1 ≤ first 0) (most : first 0 ≤ 1024) (e : found mem t (first s) ≡ None) where
  abbrev now_first : ℕ → ℕ
  now_first = upd first 0 (mem (first 0)).next

  abbrev r : Record
  r = entry t v (now_first s)

  abbrev new : ℕ → Record
  new = upd mem (first 0) r

  abbrev chains : ℕ → List ℕ
  chains = came l.chains 0 s (first 0)

  none : look mem t (l.chains s) ≡ 0
  none = subst (Found mem t (l.chains s)) e (find_is n first mem l s t at.0 at.1)

  rest : (xs : List ℕ) × (l.chains 0 ≡ first 0 ∷ xs)
  rest = begins mem l.owner 0 (first 0) (l.chains 0) (l.linked 0 (omega arith)) room

  own : l.owner (first 0) ≡ 0
  own = (subst (Linked mem l.owner 0 (first 0)) rest.1 (l.linked 0 (omega arith))).3

  apart : 0 ≡ s → ⊥
  apart q = omega (arith, at.0)

  out : (c : ℕ) → 1 ≤ c → c ≤ n → Out (first 0) (l.chains c)
  out c low high = out_other n first mem l.owner l.chains l.linked 0 s (first 0) own apart (omega arith) at.1 c high (λ q. omega arith)

  there : chains s ≡ first 0 ∷ l.chains s
  there = at_to n first mem l.owner l.chains l.linked 0 s (first 0) own apart (omega arith) at.1

  other : (c : ℕ) → 1 ≤ c → (c ≢ s) → chains c ≡ l.chains c
  other c low q = at_other n first mem l.owner l.chains l.linked 0 s (first 0) own apart (omega arith) at.1 c (λ z. omega arith) q

  holds_there : (y : ℕ) → look new y (chains s) ≡ with_pair (held_by mem l.chains) s t v s y
  holds_there y = ap (look new y) there ∙ rw (eq-eqb (first 0) (first 0) refl, look_out mem (first 0) r y (l.chains s) (out s at.0 at.1)) (grind (arith, nat_tests))

  holds : Holds n first mem l s t v new chains
  holds = split (λ c. 1 ≤ c → c ≤ n → (y : ℕ) → held_by new chains c y ≡ with_pair (held_by mem l.chains) s t v c y) s
      (λ low high y. holds_there y)
      (λ c q low high y. ap (look new y) (other c low q) ∙ look_out mem (first 0) r y (l.chains c) (out c low high) ∙ rw (ne_eqb c s q) refl)

  tidy_there : Tidy n new (chains s)
  tidy_there = rw (there, eq-eqb (first 0) (first 0) refl) (
    (at.2, at.3, v1, known),
    look_out mem (first 0) r t (l.chains s) (out s at.0 at.1) ∙ none,
    tidy_out mem (first 0) r n (l.chains s) (out s at.0 at.1) (l.tidy s at.0 at.1),
  )

  unused_is : length (l.chains 0) ≡ suc (length (chains 0))
  unused_is =
      let a : without (first 0) (l.chains 0) ≡ rest.0 = rw rest.1 (rw (eq-eqb (first 0) (first 0) refl) refl) in
      ap length rest.1 ∙ ap (λ (ys : List ℕ). suc (length ys)) (sym (at_from n first mem l.owner l.chains l.linked 0 s (first 0) own apart (omega arith) at.1 ∙ a))

  pub added : Effect n first mem l s t v (upd (upd first 0 (mem (first 0)).next) s (first 0)) (upd mem (first 0) (entry t v (upd first 0 (mem (first 0)).next s)))
  added = (
    record {
      chains = chains;
      owner = upd l.owner (first 0) s;
      linked = moved n first mem l.owner l.chains l.linked 0 s (first 0) own apart (omega arith) at.1 room most now_first mem (taken n first mem l.owner l.chains l.linked 0 (omega arith) room) r refl;
      tidy = split (λ c. 1 ≤ c → c ≤ n → Tidy n new (chains c)) s
          (λ low high. tidy_there)
          (λ c q low high. rw (other c low q) (tidy_out mem (first 0) r n (l.chains c) (out c low high) (l.tidy c low high)));
      whole = moved_whole n first mem l.owner l.chains l.linked 0 s (first 0) own apart (omega arith) at.1 l.whole;
      counted = omega (arith, pairs_after n first mem l s t v at new chains holds, some_one v v1, ap some none, unused_is, l.counted);
    },
    holds,
  )
