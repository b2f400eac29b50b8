-- The next node of a graph of contexts at phases that is outside a set of nodes.
use Rattle.std.proofs.Common.{◌≡◌, ℕ, ◌+◌, ◌-◌, ◌*◌, ◌/◌, ◌%◌, ◌<◌, ◌≤◌, Bool, false, not, ◌&&◌, leb, List, get_or, Some, None, true, refl, sym, ap, ap₂, ◌∙◌, subst, ⊎_elim, arith, mod-lt, Option}
use Rattle.std.proofs.lemmas.Bool.{cases_lt, and_left, le-leb, lt-leb, eq-eqb, ne_eqb}
use Rattle.std.proofs.Math.Nat.{mul-le-mul_right}
use Rattle.std.proofs.lemmas.Nat.{div-mul-add, div-add-mod'}
use Rattle.access.specs.Contexts.{member, FirstAbove}
use Rattle.access.specs.declared.context_set.ContextSet.{ContextSet}
use Rattle.access.proofs.ContextLaws.{inside_from}
use Rattle.access.specs.Policy.{Meaning}
use Rattle.verdicts.specs.Runs.{Grants}
use Rattle.verdicts.specs.Possible.{makeable}
use Rattle.verdicts.specs.Searches.{Search}
use Rattle.search.specs.Problem.{First, outside}
use Rattle.judge.specs.Nodes.{phase, context, edge, source}
use Rattle.judge.specs.Plan.{among, FirstInPhase}
use Rattle.judge.specs.Charts.{behind, in_phases}

module _ (n : ℕ) (some : 1 ≤ n) where
  -- the nodes of phase q are the n from q * n on
  phase_in : (q v : ℕ) → q * n ≤ v → v < q * n + n → v / n ≡ q
  phase_in q v low high =
      let e : q * n + (v - q * n) ≡ v = omega arith in
      sym (ap (λ x. x / n) e) ∙ div-mul-add q n (v - q * n) (omega arith)

  context_in : (q v : ℕ) → q * n ≤ v → v < q * n + n → q * n + context n v ≡ v + 1
  context_in q v low high =
      let e : q * n + v % n ≡ v = subst (λ p. p * n + v % n ≡ v) (phase_in q v low high) (div-add-mod' v n) in
      omega (arith, e)

  phase_low : (v : ℕ) → phase n v * n ≤ v
  phase_low v = omega (arith, div-add-mod' v n)

  -- the first of them whose context is in a set
  pub phase_some : (set : ContextSet) (q c : ℕ) → FirstAbove 0 set (Some c) → c ≤ n → FirstInPhase n (member set) q (Some (q * n + c - 1))
  phase_some set q c first within =
      let v : ℕ = q * n + c - 1 in
      let here : context n v ≡ c = omega (arith, first.0, context_in q v (omega (arith, first.0)) (omega (arith, first.0))) in
      record {
        from = omega (arith, first.0);
        below = omega (arith, first.0);
        passes = ap (member set) here ∙ first.1;
        before = λ u low high. first.2 (context n u) (omega arith) (omega (arith, first.0, context_in q u low (omega arith)));
      }

  -- the contexts of a phase that a set of nodes lacks
  pub left_in : (sets : List ContextSet) (q : ℕ) (A S : ℕ → Bool) → ((d : ℕ) → S d ≡ (A d && not (member (get_or sets q behind) d))) →
      (v : ℕ) → phase n v ≡ q → S (context n v) ≡ (A (context n v) && not (in_phases n sets v))
  left_in sets q A S h v e = h (context n v) ∙ ap (λ k. A (context n v) && not (member (get_or sets k behind) (context n v))) (sym e)

  -- the first source outside a set of nodes
  module _ (sets : List ContextSet) (A S : ℕ → Bool) (left : (d : ℕ) → S d ≡ (A d && not (member (get_or sets 0 behind) d))) where
    abbrev fresh : ℕ → Bool
    fresh = outside (in_phases n sets) (source n (among n A))

    source_in : (v : ℕ) → v < n → fresh v ≡ S (context n v)
    source_in v h =
        let e = phase_in 0 v (omega arith) (omega arith) in
        let c = context_in 0 v (omega arith) (omega arith) in
        ap (λ b. b && not (in_phases n sets v)) (ap₂ ◌&&◌ (eq-eqb (phase n v) 0 e) (ap (λ b. b && A (context n v)) (inside_from n (context n v) (omega (arith, c)) (omega (arith, c)))))
        ∙ sym (left_in sets 0 A S left v e)

    source_behind : (v : ℕ) → n ≤ v → fresh v ≡ false
    source_behind v h =
        and_left _ _ (and_left _ _ (ne_eqb (phase n v) 0 (λ e. omega (arith, subst (λ q. q * n + v % n ≡ v) e (div-add-mod' v n), mod-lt v some))))

    pub source_first : (phases : ℕ) → 1 ≤ phases → (r : Option ℕ) → FirstInPhase n S 0 r → First (outside (in_phases n sets) (source n (among n A))) 0 (phases * n) r
    source_first phases one None none =
        λ v low high. ⊎_elim (λ (l : v < n). source_in v l ∙ none v (omega arith) (omega arith)) (source_behind v) (cases_lt v n)
    source_first phases one (Some v) first =
        let below : v < n = omega (arith, first.below) in
        record {
          from = omega arith;
          below = omega (arith, mul-le-mul_right n one);
          passes = source_in v below ∙ first.passes;
          before = λ u low high. source_in u (omega arith) ∙ first.before u (omega arith) high;
        }

-- where no edge leads, none does from a node
pub none_either : (node led held : Bool) → (led && not held) ≡ false → ((node && led) && not held) ≡ false
none_either false led held e = refl
none_either true led held e = e

-- no edge leads from u to a node outside a set, below the phase q
abbrev pub NoneBelow : Search → Meaning → Grants → (ℕ → Bool) → ℕ → ℕ → Type 0
NoneBelow kind m gs held u q = (v : ℕ) → v < q * m.contexts → outside held (edge kind m gs u) v ≡ false

module _ (kind : Search) (m : Meaning) (gs : Grants) (some : 1 ≤ m.contexts) (held : ℕ → Bool) (u : ℕ) where
  abbrev n : ℕ
  n = m.contexts

  pub none_earlier : NoneBelow kind m gs held u (phase n u)
  none_earlier v high =
      and_left _ _ (and_left _ _ (lt-leb (phase n u) (phase n v) (⊎_elim
      (λ (l : phase n v < phase n u). l)
      (λ (l : phase n u ≤ phase n v). absurd (omega (arith, phase_low n some v, mul-le-mul_right n l)))
      (cases_lt (phase n v) (phase n u)))))

  module _ (q : ℕ) (later : phase n u ≤ q) (below : NoneBelow kind m gs held u q) (A S : ℕ → Bool) (reaches : (d : ℕ) → A d ≡ makeable m gs (kind.move q (context n u) d))
      (left : (v : ℕ) → phase n v ≡ q → S (context n v) ≡ (A (context n v) && not (held v))) where
    edge_in : (v : ℕ) → q * n ≤ v → v < q * n + n → outside held (edge kind m gs u) v ≡ S (context n v)
    edge_in v low high =
        let e = phase_in n some q v low high in
        ap (λ b. b && not (held v)) (ap (λ p. leb (phase n u) p && makeable m gs (kind.move p (context n u) (context n v))) e ∙ ap₂ ◌&&◌ (le-leb (phase n u) q later) (sym (reaches (context n v))))
        ∙ sym (left v e)

    pub none_here : FirstInPhase n S q None → NoneBelow kind m gs held u (q + 1)
    none_here none v high =
        ⊎_elim
        (λ (l : v < q * n). below v l)
        (λ (l : q * n ≤ v). edge_in v l (omega arith) ∙ none v l (omega arith))
        (cases_lt v (q * n))

    pub edge_first : (nodes v : ℕ) → q * n + n ≤ nodes → FirstInPhase n S q (Some v) → First (outside held (edge kind m gs u)) 0 nodes (Some v)
    edge_first nodes v room first =
        record {
          from = omega arith;
          below = omega (arith, first.below);
          passes = edge_in v first.from first.below ∙ first.passes;
          before = λ w low high.
              ⊎_elim
              (λ (l : w < q * n). below w l)
              (λ (l : q * n ≤ w). edge_in w l (omega (arith, first.below)) ∙ first.before w l high)
              (cases_lt w (q * n));
        }
