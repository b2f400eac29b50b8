-- The flows that consistency forbids, source by source.
use Rattle.std.proofs.Common.{◌≡◌, ℕ, suc, ◌<◌, ◌≤◌, Bool, true, T, eqb, ◌⊎◌, List, [], ◌∷◌, length, sym, refl, ap, ◌∙◌, subst, subst₂, inl, inr, ⊎_elim, arith, eqb→eq}
use Rattle.std.proofs.lemmas.Bool.{cases_lt}
use lib.Dec.{eqb_refl}
use Rattle.access.specs.Policy.{Meaning}
use Rattle.verdicts.specs.Runs.{Grants}
use Rattle.verdicts.specs.Activities.{Move, Flow, consistency, ReadsDirectly, Forbids}
use Rattle.verdicts.specs.Verdicts.{NoneRealised, AtLeast, Guaranteed}
use Rattle.verdicts.specs.First.{way, Lower}
use Rattle.verdicts.proofs.Agreement.{same_length}
use Rattle.verdicts.proofs.First.{flow_starts}
use Rattle.judge.specs.declared.step.Step.{Step}
use Rattle.judge.specs.Found.{Leads, Found}

module _ (m : Meaning) (gs : Grants) where
  -- consistency, source by source: `unread a` is what of B the policy alone does not let a read
  module _ (A B : ℕ → Bool) (unread : ℕ → ℕ → Bool) where
    abbrev From : ℕ → List Move → Type 0
    From a = Leads Flow (λ c. eqb c a) (unread a)

    abbrev Fails : Type 0
    Fails = (a b : ℕ) → T (B b) → (ReadsDirectly m a b → ⊥) → T (unread a b)

    by_source : Fails → (ms : List Move) → Forbids m (consistency A B) ms → (a : ℕ) × T (A a) × From a ms
    by_source fails ms h = (h.from, h.from_in, record { from = h.from; to = h.to; from_in = eqb_refl h.from; to_in = fails h.from h.to h.to_in h.holds.1; holds = h.holds.0 })

    pub sources_none : Fails → ((a : ℕ) → T (A a) → NoneRealised m gs (From a)) → Guaranteed m gs (consistency A B)
    sources_none fails none ms h r = let s = by_source fails ms h in none s.0 s.1 ms s.2 r

    -- of flows from two sources as long as one another, the one from the lower source comes first
    lower_source : {a c b d : ℕ} {vs ms : List Move} → Flow a b vs → Flow c d ms → a < c → length ms ≡ length vs → (ms ≡ vs) ⊎ Lower (way true vs) (way true ms)
    lower_source {a} {c} {vs = vs} {ms = ms} f g l e = go (flow_starts f) (flow_starts g)
      where
        nothing : (xs : List Move) → length xs ≡ 0 → xs ≡ []
        nothing [] z = refl
        nothing (x ∷ xs) z = absurd (omega arith)

        go : (vs ≡ []) ⊎ ((rest : List ℕ) × (way true vs ≡ a ∷ rest)) → (ms ≡ []) ⊎ ((rest : List ℕ) × (way true ms ≡ c ∷ rest)) → (ms ≡ vs) ⊎ Lower (way true vs) (way true ms)
        go (inl z) s = inl (nothing ms (e ∙ ap length z) ∙ sym z)
        go (inr r) (inl z) = inl (z ∙ sym (nothing vs (sym e ∙ ap length z)))
        go (inr r) (inr s) = inr (subst₂ Lower (sym r.1) (sym s.1) (inl l))

    pub source_found : Fails → (a : ℕ) → T (A a) → ((b : ℕ) → T (unread a b) → T (B b) × (ReadsDirectly m a b → ⊥)) → (ss : List Step) (k : ℕ) → ((c : ℕ) → T (A c) → AtLeast m gs (From c) k) → ((c : ℕ) → T (A c) → c < a → AtLeast m gs (From c) (suc k))
        → Found m gs (From a) true ss k → Found m gs (Forbids m (consistency A B)) true ss k
    unfolding by_source
    source_found fails a in-A reads ss k least farther f =
        let w = f.first.shown in
        let q = w.sought in
        let e = eqb→eq q.from a q.from_in in
        let u = reads q.to q.to_in in
        let flows : Flow a q.to w.moves = subst (λ c. Flow c q.to w.moves) e q.holds in
        let n = same_length w.shown in
        record {
          first = record {
            shown = record {
              moves = w.moves;
              sought = record { from = a; to = q.to; from_in = in-A; to_in = u.0; holds = (flows, u.1) };
              shown = w.shown;
              legal = w.legal;
              shortest = λ ms h r. let s = by_source fails ms h in omega (arith, f.count, least s.0 s.1 ms s.2 r);
            };
            first = λ ms h r z.
                let s = by_source fails ms h in
                ⊎_elim
                (λ (c : s.0 < a). absurd (omega (arith, farther s.0 s.1 c ms s.2 r, n, f.count, z)))
                (λ (c : a ≤ s.0).
                ⊎_elim
                (λ (d : a < s.0). lower_source flows h.holds.0 d z)
                (λ (d : s.0 ≤ a). let g : s.0 ≡ a = omega arith in f.first.first ms (subst (λ x. From x ms) g s.2) r z)
                (cases_lt a s.0))
                (cases_lt s.0 a);
          };
          count = f.count;
          few = f.few;
        }
