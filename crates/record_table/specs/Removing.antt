-- The record of a pair goes back to the unused ones.
use Rattle.std.specs.Prelude.{◌≡◌, ℕ, suc, ◌≤◌, List, length, Some, None, Option, ◌≢◌, refl}
use Rattle.std.proofs.Common.{sym, ap, subst, ◌∙◌, arith}
use Rattle.std.proofs.lemmas.Bool.{eq-eqb, ne_eqb}
use Rattle.access.specs.Policy.{with_pair}
use Rattle.record_table.specs.declared.chains.Record.{Record}
use Rattle.record_table.specs.Chains.{found, ahead, linked_to, entry}
use Rattle.record_table.specs.Laid.{In, Linked, look, Tidy, held_by, Laid}
use Rattle.record_table.specs.TableMeaning.{Pair}
use Rattle.record_table.specs.ChainsLemmas.{upd, in_owner, out_owned, linked_out, look_out, tidy_out}
use Rattle.record_table.specs.Unlinking.{without, without_out, look_without, tidy_without, look_relinked, tidy_relinked, Cut, cut_is}
use Rattle.record_table.specs.Layouts.{some_one, chain_short, held_at, held_some, held_first, held_away, Holds, Effect, pairs_after}
use Rattle.record_table.specs.Moving.{Links, left, came, split, taken, at_from, at_to, at_other, moved, moved_whole}

-- the functions after a record left a chain
abbrev pub cut_first : Option ℕ → (ℕ → ℕ) → ℕ → ℕ → ℕ → ℕ
cut_first None first c next = upd first c next
cut_first (Some b) first c next = first

abbrev pub cut_mem : Option ℕ → (ℕ → Record) → ℕ → ℕ → Record
cut_mem None mem next = mem
cut_mem (Some b) mem next = upd mem b (linked_to (mem b) next)

module _ (n : ℕ) (first : ℕ → ℕ) (mem : ℕ → Record) (l : Laid n first mem) (s t i : ℕ) (at : Pair n s t) (i1 : 1 ≤ i) (most : i ≤ 1024) (e : found mem t (first s) ≡ Some i) where
  held_in : In i (l.chains s)
  held_in = (held_at n first mem l s t i at e).0

  own : l.owner i ≡ s
  own = in_owner mem l.owner s (first s) i (l.chains s) (l.linked s at.1) held_in

  apart : s ≡ 0 → ⊥
  apart q = omega (arith, at.0)

  abbrev chains : ℕ → List ℕ
  chains = came l.chains s 0 i

  there : chains s ≡ without i (l.chains s)
  there = at_from n first mem l.owner l.chains l.linked s 0 i own apart at.1 (omega arith)

  other : (c : ℕ) → 1 ≤ c → (c ≢ s) → chains c ≡ l.chains c
  other c low q = at_other n first mem l.owner l.chains l.linked s 0 i own apart at.1 (omega arith) c q (λ z. omega arith)

  -- whatever is written to take it out, if the records hold the same
  module _ (now_first : ℕ → ℕ) (new : ℕ → Record) (links : Links n now_first new l.owner (left l.chains s i))
      (same : (y : ℕ) (ys : List ℕ) → look new y ys ≡ look mem y ys) (tidy : (ys : List ℕ) → Tidy n mem ys → Tidy n new ys) where
    abbrev r : Record
    r = entry 0 0 (now_first 0)

    holds_there : (y : ℕ) → look (upd new i r) y (chains s) ≡ with_pair (held_by mem l.chains) s t 0 s y
    holds_there y =
        ap (look (upd new i r) y) there
        ∙ look_out new i r y (without i (l.chains s)) (without_out mem l.owner s (first s) i (l.chains s) (l.linked s at.1))
        ∙ same y (without i (l.chains s)) ∙ look_without n mem i (l.chains s) (l.tidy s at.0 at.1) held_in y
        ∙ rw (eq-eqb s s refl, (held_at n first mem l s t i at e).1) refl

    holds : Holds n first mem l s t 0 (upd new i r) chains
    holds = split (λ c. 1 ≤ c → c ≤ n → (y : ℕ) → held_by (upd new i r) chains c y ≡ with_pair (held_by mem l.chains) s t 0 c y) s
        (λ low high y. holds_there y)
        (λ c q low high y. ap (look (upd new i r) y) (other c low q) ∙ look_out new i r y (l.chains c) (held_away n first mem l s t i at e c high q) ∙ same y (l.chains c) ∙ rw (ne_eqb c s q) refl)

    tidy_there : Tidy n (upd new i r) (chains s)
    tidy_there = rw there (tidy_out new i r n (without i (l.chains s)) (without_out mem l.owner s (first s) i (l.chains s) (l.linked s at.1)) (tidy (without i (l.chains s)) (tidy_without n mem i (l.chains s) (l.tidy s at.0 at.1))))

    unused_is : length (chains 0) ≡ suc (length (l.chains 0))
    unused_is = ap length (at_to n first mem l.owner l.chains l.linked s 0 i own apart at.1 (omega arith))

    put_back : Effect n first mem l s t 0 (upd now_first 0 i) (upd new i (entry 0 0 (now_first 0)))
    put_back = (
      record {
        chains = chains;
        owner = upd l.owner i 0;
        linked = moved n first mem l.owner l.chains l.linked s 0 i own apart at.1 (omega arith) i1 most now_first new links r refl;
        tidy = split (λ c. 1 ≤ c → c ≤ n → Tidy n (upd new i r) (chains c)) s
            (λ low high. tidy_there)
            (λ c q low high. rw (other c low q) (tidy_out new i r n (l.chains c) (held_away n first mem l s t i at e c high q) (tidy (l.chains c) (l.tidy c low high))));
        whole = moved_whole n first mem l.owner l.chains l.linked s 0 i own apart at.1 (omega arith) l.whole;
        counted = omega (arith, pairs_after n first mem l s t 0 at (upd new i r) chains holds, some_one (look mem t (l.chains s)) (held_some n first mem l s t i at e), unused_is, l.counted);
      },
      holds,
    )

  -- taken out behind a record b
  cut_links : (b : ℕ) → Cut mem l.owner s (first s) i (l.chains s) (Some b) → Links n first (upd mem b (linked_to (mem b) (mem i).next)) l.owner (left l.chains s i)
  cut_links b cut = split (λ c. c ≤ n → Linked (upd mem b (linked_to (mem b) (mem i).next)) l.owner c (first c) (left l.chains s i c)) s
      (λ h. rw (eq-eqb s s refl) cut.2)
      (λ c q h. rw (ne_eqb c s q) (linked_out mem b (linked_to (mem b) (mem i).next) l.owner l.owner (λ y _. refl) c (first c) (l.chains c)
      (out_owned mem l.owner c (first c) b (l.chains c) (l.linked c h) (λ z. q (sym z ∙ in_owner mem l.owner s (first s) b (l.chains s) (l.linked s at.1) cut.0))) (l.linked c h)))

  by_cut : (o : Option ℕ) → Cut mem l.owner s (first s) i (l.chains s) o → Effect n first mem l s t 0 (upd (cut_first o first s (mem i).next) 0 i) (upd (cut_mem o mem (mem i).next) i (entry 0 0 (cut_first o first s (mem i).next 0)))
  by_cut None cut =
      let q : first s ≡ i = cut held_in in
      put_back (upd first s (mem i).next) mem (subst (λ (x : ℕ). Links n (upd first s (mem x).next) mem l.owner (left l.chains s x)) q (taken n first mem l.owner l.chains l.linked s at.1 (held_first n first mem l s t i at e))) (λ y ys. refl) (λ ys k. k)
  by_cut (Some b) cut = put_back first (upd mem b (linked_to (mem b) (mem i).next)) (cut_links b cut) (look_relinked mem b (mem i).next) (tidy_relinked mem b (mem i).next n)

  pub removed : Effect n first mem l s t 0 (upd (cut_first (ahead mem i (first s)) first s (mem i).next) 0 i) (upd (cut_mem (ahead mem i (first s)) mem (mem i).next) i (entry 0 0 (cut_first (ahead mem i (first s)) first s (mem i).next 0)))
  removed = by_cut (ahead mem i (first s)) (cut_is mem l.owner s i i1 1024 (first s) (l.chains s) (chain_short n first mem l s at.0 at.1) (l.linked s at.1))
