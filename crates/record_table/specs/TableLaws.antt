-- The record table keeps what every policy keeps.
use Rattle.std.specs.Prelude.{◌≡◌, ℕ, ◌<◌, ◌≤◌, true, false, List, length, IfSome, Some, None, Option, ◌==◌, refl}
use Rattle.std.proofs.Common.{ap, ap₂, ◌∙◌, ⊎_elim, arith}
use Rattle.std.proofs.Math.Path.{fun_ext}
use Rattle.std.proofs.Math.Logic.{∥∥₁_elim, ∥∥₁_map}
use Rattle.std.proofs.Math.Nat.{ℕ_set}
use Rattle.std.proofs.Math.Bridge.{le_prop}
use Rattle.std.proofs.lemmas.Bool.{cases_eq, eq-eqb}
use Rattle.std.proofs.lemmas.Bool.Decides.{nat_tests}
use Rattle.access.specs.Policy.{with_pair, with_written}
use Rattle.access.specs.Contexts.{both_inside}
use Rattle.access.specs.Sound.{Sound, filled}
use Rattle.access.specs.Setting.{no_room, with_set}
use Rattle.access.proofs.Settings.{pair_inside}
use Rattle.record_table.specs.declared.chains.Record.{Record}
use Rattle.record_table.specs.declared.chains.Chains.{Chains}
use Rattle.record_table.specs.declared.table.RecordTable.{RecordTable}
use Rattle.record_table.specs.Chains.{numbered, first_of, ahead, linked_to, with_operations, entry, with_first, with_record, cut, in_front}
use Rattle.record_table.specs.Laid.{Laid}
use Rattle.record_table.specs.TableMeaning.{chain_meaning, table_meaning, held, Has, Lacks, Pair}
use Rattle.record_table.specs.ChainsLemmas.{upd, begins, ends}
use Rattle.record_table.specs.Layouts.{Effect, written_is, written_after, filled_is, known_all, held_some, held_first}
use Rattle.record_table.specs.Changing.{changed}
use Rattle.record_table.specs.Adding.{added}
use Rattle.record_table.specs.Removing.{removed, cut_first, cut_mem}
use Rattle.record_table.specs.Steps.{next_low}
use Rattle.record_table.specs.Writes.{Arrays, arrays_first, arrays_slot, first_set, numbered_set}

-- chains that a table of n contexts can have
pub record SoundChains (n : ℕ) (k : Chains) : Type 0 where
  pub arrays : Arrays k
  pub laid : ∥ Laid n (first_of k.heads) (numbered k.slots) ∥₁

-- the chains after the set of a pair was replaced
pub record Wrote (p : RecordTable) (s t v : ℕ) (k : Chains) : Type 0 where
  pub sound : SoundChains p.contexts k
  pub means : chain_meaning p.contexts (first_of k.heads) (numbered k.slots) ≡ with_set (table_meaning p) s t v

abbrev pub Within : Option ℕ → Type 0
Within o = IfSome o (λ b. (1 ≤ b) × (b ≤ 1024))

module _ (p : RecordTable) where
  abbrev n : ℕ
  n = p.contexts

  abbrev heads : List ℕ
  heads = p.chains.heads

  abbrev slots : List Record
  slots = p.chains.slots

  abbrev first : ℕ → ℕ
  first = first_of heads

  abbrev mem : ℕ → Record
  mem = numbered slots

  pub table_sound : Sound (table_meaning p)
  table_sound = record {
    a_context = p.sizes.0;
    few_contexts = p.sizes.1;
    written_inside = λ s t out. rw out refl;
    permitted_inside = λ s t out. rw out refl;
    written_known = λ s t. ∥∥₁_elim p.laid le_prop (λ l. known_all n first mem l s t);
    permitted_known = λ s t. grind (arith, nat_tests);
    room = ∥∥₁_elim p.laid le_prop (λ l. let a = filled_is n first mem l in omega arith);
  }

  full : first 0 ≡ 0 → filled (table_meaning p) ≡ 1024
  full z = ∥∥₁_elim p.laid (ℕ_set _ _) (λ l. let a = filled_is n first mem l in let b = ends mem l.owner 0 (first 0) (l.chains 0) (l.linked 0 (omega arith)) z in omega arith)

  free : 1 ≤ first 0 → filled (table_meaning p) < 1024
  free h = ∥∥₁_elim p.laid le_prop (λ l.
      let a = filled_is n first mem l in
      let b = begins mem l.owner 0 (first 0) (l.chains 0) (l.linked 0 (omega arith)) h in
      omega (arith, a, ap length b.1))

  -- the unused chain is empty exactly where there is no room
  full_is : (first 0 == 0) ≡ (filled (table_meaning p) == 1024)
  full_is = ⊎_elim
      (λ z. let a = full z in grind (arith, nat_tests))
      (λ n. let a = free (omega arith) in grind (arith, nat_tests))
      (cases_eq (first 0) 0)

  arrays : Arrays p.chains
  arrays = record { heads_size = p.sizes.2; slots_size = p.sizes.3; firsts = p.firsts; links = p.links }

  -- the chains after a record left chain c
  module _ (c next : ℕ) where
    cut_arrays : (o : Option ℕ) → next ≤ 1024 → Arrays (cut o p.chains c next)
    cut_arrays None h = arrays_first p.chains arrays c next h
    cut_arrays (Some b) h = arrays_slot p.chains arrays b (linked_to (mem b) next) h

    cut_firsts : (o : Option ℕ) → c ≤ 256 → first_of (cut o p.chains c next).heads ≡ cut_first o first c next
    cut_firsts None h = first_set heads c next (omega (arith, p.sizes.2))
    cut_firsts (Some b) h = refl

    cut_mems : (o : Option ℕ) → Within o → numbered (cut o p.chains c next).slots ≡ cut_mem o mem next
    cut_mems None h = refl
    cut_mems (Some b) h = numbered_set slots b (linked_to (mem b) next) h.0 (omega (arith, h.1, p.sizes.3))

  module _ (s t : ℕ) (at : Pair p.contexts s t) where
    inside : both_inside n s t ≡ true
    inside = pair_inside n s t at.0 at.1 at.2 at.3

    none_written : Lacks p s t → (table_meaning p).written s t ≡ 0
    none_written e = rw (inside, e) refl

    some_written : (i : ℕ) → held p s t ≡ Some i → 1 ≤ (table_meaning p).written s t
    some_written i e = ∥∥₁_elim p.laid le_prop (λ l. rw (written_is n first mem l s t at) (held_some n first mem l s t i at e))

    -- a context with a record has a chain
    pub has_chain : (i : ℕ) → held p s t ≡ Some i → 1 ≤ first_of p.chains.heads s
    has_chain i e = ∥∥₁_elim p.laid le_prop (λ l. held_first n first mem l s t i at e)

    -- nothing is needed for a pair that has a record; else an unused record
    pub room_for_own : (v i : ℕ) → Has p s t i → no_room (table_meaning p) s t v ≡ false
    room_for_own v i has = let a = some_written i has.0 in grind (arith, nat_tests)

    pub room_for_new : (v : ℕ) → (v == 0) ≡ false → Lacks p s t → (first_of p.chains.heads 0 == 0) ≡ no_room (table_meaning p) s t v
    room_for_new v e lacks = rw (e, eq-eqb ((table_meaning p).written s t) 0 (none_written lacks)) full_is

    -- a pair that has no record is emptied by doing nothing
    pub empty_done : Lacks p s t → table_meaning p ≡ with_set (table_meaning p) s t 0
    empty_done e = ap (with_written (table_meaning p)) (fun_ext (λ x. fun_ext (λ y. same x y (none_written e))))
      where
        same : (x y : ℕ) → (table_meaning p).written s t ≡ 0 → (table_meaning p).written x y ≡ with_pair (table_meaning p).written s t 0 x y
        same x y z = grind (arith, nat_tests)

    wrote : (v : ℕ) (k : Chains) → Arrays k → (now_first : ℕ → ℕ) (new : ℕ → Record) → first_of k.heads ≡ now_first → numbered k.slots ≡ new
        → ((l : Laid n first mem) → Effect n first mem l s t v now_first new) → Wrote p s t v k
    wrote v k ok now_first new a b e = record {
      sound = record { arrays = ok; laid = rw (a, b) (∥∥₁_map p.laid (λ l. (e l).0)) };
      means = ap₂ (chain_meaning n) a b ∙ ap (with_written (table_meaning p)) (fun_ext (λ x. fun_ext (λ y. ∥∥₁_elim p.laid (ℕ_set _ _) (λ l. written_after n first mem l s t v at now_first new (e l) x y))));
    }

    pub change_wrote : (v i : ℕ) → 1 ≤ v → v < 4096 → Has p s t i → Wrote p s t v (with_record p.chains i (with_operations (numbered p.chains.slots i) v))
    change_wrote v i v1 known has =
        let new : Record = with_operations (mem i) v in
        wrote v (with_record p.chains i new) (arrays_slot p.chains arrays i new (next_low slots p.links i has.1 has.2))
        first (upd mem i new) refl (numbered_set slots i new has.1 (omega (arith, has.2, p.sizes.3))) (λ l. changed n first mem l s t v i at v1 known has.0)

    -- record x, which is in no chain, is put in front of chain b
    pushed : (v b x t' v' : ℕ) → b ≤ 256 → 1 ≤ x → x ≤ 1024 → (k : Chains) → Arrays k → (first₁ : ℕ → ℕ) (mem₁ : ℕ → Record) → first_of k.heads ≡ first₁ → numbered k.slots ≡ mem₁
        → ((l : Laid n first mem) → Effect n first mem l s t v (upd first₁ b x) (upd mem₁ x (entry t' v' (first₁ b)))) → Wrote p s t v (in_front k b x t' v')
    pushed v b x t' v' low x1 most k ok first₁ mem₁ f m e =
        let new : Record = entry t' v' (first_of k.heads b) in
        wrote v (in_front k b x t' v') (arrays_first (with_record k x new) (arrays_slot k ok x new (ok.firsts b)) b x most)
        (upd first₁ b x) (upd mem₁ x (entry t' v' (first₁ b)))
        (first_set k.heads b x (omega (arith, ok.heads_size)) ∙ ap (λ (g : ℕ → ℕ). upd g b x) f)
        (numbered_set k.slots x new x1 (omega (arith, ok.slots_size)) ∙ ap₂ (λ (g : ℕ → ℕ) (h : ℕ → Record). upd h x (entry t' v' (g b))) f m)
        e

    pub add_wrote : (v : ℕ) → 1 ≤ v → v < 4096 → Lacks p s t → 1 ≤ first_of p.chains.heads 0
        → Wrote p s t v (in_front (with_first p.chains 0 (numbered p.chains.slots (first_of p.chains.heads 0)).next) s (first_of p.chains.heads 0) t v)
    add_wrote v v1 known lacks room =
        let next : ℕ = (mem (first 0)).next in
        pushed v s (first 0) t v (omega (arith, at.1, p.sizes.1)) room (p.firsts 0)
        (with_first p.chains 0 next) (arrays_first p.chains arrays 0 next (next_low slots p.links (first 0) room (p.firsts 0)))
        (upd first 0 next) mem (first_set heads 0 next (omega (arith, p.sizes.2))) refl (λ l. added n first mem l s t v at v1 known room (p.firsts 0) lacks)

    pub remove_wrote : (i : ℕ) → Has p s t i → Within (ahead (numbered p.chains.slots) i (first_of p.chains.heads s))
        → Wrote p s t 0 (in_front (cut (ahead (numbered p.chains.slots) i (first_of p.chains.heads s)) p.chains s (numbered p.chains.slots i).next) 0 i 0 0)
    remove_wrote i has within =
        pushed 0 0 i 0 0 (omega arith) has.1 has.2
        (cut o p.chains s next) (cut_arrays s next o (next_low slots p.links i has.1 has.2))
        (cut_first o first s next) (cut_mem o mem next) (cut_firsts s next o (omega (arith, at.1, p.sizes.1))) (cut_mems s next o within)
        (λ l. removed n first mem l s t i at has.1 has.2 has.0)
      where
        o : Option ℕ
        o = ahead mem i (first s)

        next : ℕ
        next = (mem i).next
