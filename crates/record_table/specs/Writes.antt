-- A write of one element of an array.
use Rattle.std.specs.Prelude.{◌≡◌, ℕ, zero, suc, ◌-◌, ◌<◌, ◌≤◌, ◌⊎◌, List, [], ◌∷◌, length, get_or, set, refl}
use Rattle.std.proofs.Common.{◌∙◌, inl, inr, ⊎_elim, arith, length-set, get_or-set_other}
use Rattle.std.proofs.lemmas.Grind.{get_or-set_at}
use Rattle.std.proofs.Math.Path.{fun_ext}
use Rattle.std.proofs.lemmas.Bool.Decides.{nat_tests}
use Rattle.record_table.specs.declared.chains.Record.{Record}
use Rattle.record_table.specs.declared.chains.Chains.{Chains}
use Rattle.record_table.specs.Chains.{blank, numbered, first_of, with_first, with_record, LinksLow}
use Rattle.record_table.specs.ChainsLemmas.{upd}

-- seen as a function
get_d_set : {X : Type 0} (l : List X) (i : ℕ) (v d : X) → i < length l → (k : ℕ) → get_or (set l i v) k d ≡ upd (λ j. get_or l j d) i v k
get_d_set l i v d h k = grind (arith, nat_tests, get_or-set_at, get_or-set_other)

pub first_set : (heads : List ℕ) (c v : ℕ) → c < length heads → first_of (set heads c v) ≡ upd (first_of heads) c v
first_set heads c v h = fun_ext (get_d_set heads c v 0 h)

pub numbered_set : (slots : List Record) (x : ℕ) (r : Record) → 1 ≤ x → x ≤ length slots → numbered (set slots (x - 1) r) ≡ upd (numbered slots) x r
numbered_set slots zero r low high = absurd (omega arith)
numbered_set slots (suc x) r low high = let e : suc x - 1 ≡ x = omega arith in rw e (fun_ext (get_d_set (blank ∷ slots) (suc x) r blank (omega arith)))

-- each element is the new one or as it was
set_either : {X : Type 0} (l : List X) (i k : ℕ) (r d : X) → (get_or (set l i r) k d ≡ r) ⊎ (get_or (set l i r) k d ≡ get_or l k d)
set_either [] i k r d = inr refl
set_either (x ∷ xs) zero zero r d = inl refl
set_either (x ∷ xs) zero (suc k) r d = inr refl
set_either (x ∷ xs) (suc i) zero r d = inr refl
set_either (x ∷ xs) (suc i) (suc k) r d = set_either xs i k r d

-- what holds of the arrays of a table
pub record Arrays (k : Chains) : Type 0 where
  pub heads_size : length k.heads ≡ 257
  pub slots_size : length k.slots ≡ 1024
  pub firsts : (c : ℕ) → first_of k.heads c ≤ 1024
  pub links : LinksLow k.slots

module _ (k : Chains) (ok : Arrays k) where
  pub arrays_first : (c v : ℕ) → v ≤ 1024 → Arrays (with_first k c v)
  arrays_first c v h = record {
    heads_size = length-set k.heads c v ∙ ok.heads_size;
    slots_size = ok.slots_size;
    firsts = λ j. ⊎_elim (λ e. rw e h) (λ e. rw e (ok.firsts j)) (set_either k.heads c j v 0);
    links = ok.links;
  }

  pub arrays_slot : (i : ℕ) (r : Record) → r.next ≤ 1024 → Arrays (with_record k i r)
  arrays_slot i r h = record {
    heads_size = ok.heads_size;
    slots_size = length-set k.slots (i - 1) r ∙ ok.slots_size;
    firsts = ok.firsts;
    links = λ j q. ⊎_elim (λ e. rw e h) (λ e. rw e (ok.links j q)) (set_either k.slots (i - 1) j r blank);
  }
