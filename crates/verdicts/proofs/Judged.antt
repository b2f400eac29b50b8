-- The two verdicts are exhaustive: a property whose sets are of contexts is guaranteed, or broken in some steps.
use Rattle.std.proofs.Common.{ℕ, zero, suc, ◌≤◌, Bool, true, false, not, ◌&&◌, T, eqb, leb, ◌⊎◌, List, [], ◌∷◌, length, refl, ap, subst, inl, inr, ⊎_elim, arith, le→leb, eqb→eq, leb→le, T_not}
use lib.Dec.{eqb_refl, not_T}
use Rattle.access.specs.Contexts.{inside}
use Rattle.access.specs.Policy.{Meaning}
use Rattle.access.specs.Sound.{Sound}
use Rattle.verdicts.specs.Runs.{Grants}
use Rattle.verdicts.specs.Activities.{Move, contact, Property, integrity, confidentiality, domain, consistency, apart}
use Rattle.verdicts.specs.Possible.{any_below, makeable}
use Rattle.verdicts.specs.Searches.{Search}
use Rattle.verdicts.specs.Verdicts.{Guaranteed, Step, Broken}
use Rattle.verdicts.specs.Laws.{OfContexts, VerdictLaws}
use Rattle.access.proofs.Tests.{both, both_parts, cases_test}
use Rattle.verdicts.proofs.Bounded.{any_found, any_from}
use Rattle.verdicts.proofs.Inside.{Inside, sound_inside, ends}
use Rattle.verdicts.proofs.Reduction.{reduction}
use Rattle.verdicts.proofs.Moves.{realised}
use Rattle.verdicts.proofs.Agreement.{same_length, never_both, one_number}
use Rattle.verdicts.proofs.Searching.{kind_of, Sought, Searched, Found, found_from, breach_from, found_short, move_inside, broken_few}
use Rattle.verdicts.proofs.Walks.{Walk, stop, go}
use Rattle.verdicts.proofs.Domains.{domain_closed, domain_shortest}
use Rattle.verdicts.proofs.Decided.{direct, direct_from, direct_found}
use Rattle.verdicts.proofs.Lowest.{least}
use Rattle.verdicts.proofs.Exists.{broken_exists}
use Rattle.verdicts.proofs.First.{one_first}

module _ (m : Meaning) (gs : Grants) (stays : Inside m) where
  -- a walk of k moves, as a test
  abbrev walks : Search → ℕ → ℕ → ℕ → ℕ → Bool
  walks kind zero p c d = eqb c d
  walks kind (suc k) p c d = any_below (λ b. any_below (λ q. leb p q && (makeable m gs (kind.move q c b) && walks kind k q b d)) kind.phases) (suc m.contexts)

  walks_walk : (kind : Search) (k p c d : ℕ) → T (walks kind k p c d) → Walk kind (makeable m gs) (λ c. true) p c d k
  walks_walk kind zero p c d h = subst (λ x. Walk kind (makeable m gs) (λ c. true) p c x 0) (eqb→eq c d h) (stop tt)
  walks_walk kind (suc k) p c d h =
      let r = any_found (λ b. any_below (λ q. leb p q && (makeable m gs (kind.move q c b) && walks kind k q b d)) kind.phases) (suc m.contexts) h in
      let b = r.0 in
      let s = any_found (λ q. leb p q && (makeable m gs (kind.move q c b) && walks kind k q b d)) kind.phases r.2 in
      let q = s.0 in
      let x = both_parts (leb p q) _ s.2 in
      let y = both_parts (makeable m gs (kind.move q c b)) _ x.1 in
      go q c (leb→le p q x.0) s.1 tt y.0 (walks_walk kind k q b d y.1)

  walk_walks : (p : Property) → Searched p → {x c d k : ℕ} → Walk (kind_of p) (makeable m gs) (λ c. true) x c d k → T (walks (kind_of p) k x c d)
  walk_walks p s {c = c} (stop o) = eqb_refl c
  walk_walks p s {x = x} {d = d} (go {c = b} {k = k} q c l f o v w) =
      let kind = kind_of p in
      any_from (λ b. any_below (λ q. leb x q && (makeable m gs (kind.move q c b) && walks kind k q b d)) kind.phases) (suc m.contexts) b (omega (arith, (move_inside m gs stays p s q c b v).1))
      (any_from (λ q. leb x q && (makeable m gs (kind.move q c b) && walks kind k q b d)) kind.phases q f
      (both (leb x q) _ (le→leb x q l) (both (makeable m gs (kind.move q c b)) _ v (walk_walks p s w))))

  abbrev sought : Property → ℕ → ℕ → Bool
  sought (integrity A B) a b = A a && B b
  sought (confidentiality A B) a b = A a && B b
  sought (consistency A B) a b = A a && (B b && not (direct m a b))
  sought (domain A) a b = false

  sought_is : (p : Property) (a b : ℕ) → T (sought p a b) → Sought m p a b
  sought_is (integrity A B) a b h = both_parts (A a) (B b) h
  sought_is (confidentiality A B) a b h = both_parts (A a) (B b) h
  sought_is (consistency A B) a b h = let x = both_parts (A a) _ h in let y = both_parts (B b) _ x.1 in (x.0, y.0, λ r. T_not (direct m a b) y.1 (direct_from m a b r))
  sought_is (domain A) a b h = h

  is_sought : (p : Property) (a b : ℕ) → Sought m p a b → T (sought p a b)
  is_sought (integrity A B) a b h = both (A a) (B b) h.0 h.1
  is_sought (confidentiality A B) a b h = both (A a) (B b) h.0 h.1
  is_sought (consistency A B) a b h = both (A a) _ h.0 (both (B b) _ h.1 (not_T (direct m a b) (λ d. h.2 (direct_found m a b d))))
  is_sought (domain A) a b h = h

  at_most : (c : ℕ) → T (inside m.contexts c) → c ≤ m.contexts
  at_most c h = leb→le c m.contexts (both_parts (leb 1 c) _ h).1

  sought_within : (p : Property) → OfContexts m.contexts p → (a b : ℕ) → Sought m p a b → (a ≤ m.contexts) × (b ≤ m.contexts)
  sought_within (integrity A B) o a b h = (at_most a (o.0 a h.0), at_most b (o.1 b h.1))
  sought_within (confidentiality A B) o a b h = (at_most a (o.0 a h.0), at_most b (o.1 b h.1))
  sought_within (consistency A B) o a b h = (at_most a (o.0 a h.0), at_most b (o.1 b h.1))
  sought_within (domain A) o a b h = elim h [ ]

  abbrev pair_test : (ℕ → ℕ → Bool) → Bool
  pair_test f = any_below (λ a. any_below (λ b. f a b) (suc m.contexts)) (suc m.contexts)

  pair_found : (f : ℕ → ℕ → Bool) → T (pair_test f) → (a b : ℕ) × T (f a b)
  pair_found f h = let x = any_found (λ a. any_below (λ b. f a b) (suc m.contexts)) (suc m.contexts) h in let y = any_found (λ b. f x.0 b) (suc m.contexts) x.2 in (x.0, y.0, y.2)

  pair_from : (f : ℕ → ℕ → Bool) (a b : ℕ) → a ≤ m.contexts → b ≤ m.contexts → T (f a b) → T (pair_test f)
  pair_from f a b h k t = any_from (λ a. any_below (λ b. f a b) (suc m.contexts)) (suc m.contexts) a (omega arith) (any_from (λ b. f a b) (suc m.contexts) b (omega arith) t)

  abbrev found_test : Property → ℕ → Bool
  found_test p k = pair_test (λ a b. sought p a b && walks (kind_of p) k 0 a b)

  test_found : (p : Property) (k : ℕ) → T (found_test p k) → Found m gs p k
  test_found p k h =
      let x = pair_found (λ a b. sought p a b && walks (kind_of p) k 0 a b) h in
      let y = both_parts (sought p x.0 x.1) _ x.2 in
      record { from = x.0; to = x.1; sought = sought_is p x.0 x.1 y.0; walk = walks_walk (kind_of p) k 0 x.0 x.1 y.1 }

  found_tested : (p : Property) → Searched p → OfContexts m.contexts p → (k : ℕ) → Found m gs p k → T (found_test p k)
  found_tested p s o k f =
      let e = sought_within p o f.from f.to f.sought in
      pair_from (λ a b. sought p a b && walks (kind_of p) k 0 a b) f.from f.to e.0 e.1 (both (sought p f.from f.to) _ (is_sought p f.from f.to f.sought) (walk_walks p s f.walk))

  abbrev Verdict : Property → Type 0
  Verdict p = Guaranteed m gs p ⊎ ((ss : List Step) × Broken m gs p ss)

  searched_judged : (p : Property) → Searched p → OfContexts m.contexts p → Verdict p
  searched_judged p s o =
      ⊎_elim
      (λ h. let l = least (found_test p) (suc m.contexts) h in
      let b = breach_from m gs p l.0 (test_found p l.0 l.1) in
      inr (broken_exists m gs p b.moves b.forbidden b.realises (λ ms f r. omega (arith, b.count, l.2 (length ms) (found_tested p s o (length ms) (found_from m gs p s ms f r))))))
      (λ n. inl (λ ms f r. let x = found_short m gs stays p s (length ms) (found_from m gs p s ms f r) in n (any_from (found_test p) (suc m.contexts) x.0 (omega (arith, x.1)) (found_tested p s o x.0 x.2))))
      (cases_test (any_below (found_test p) (suc m.contexts)))

  domain_judged : (A : ℕ → Bool) → Verdict (domain A)
  domain_judged A =
      let f : ℕ → ℕ → Bool = λ s t. apart A s t && makeable m gs (contact s t) in
      ⊎_elim
      (λ h. let x = pair_found f h in
      let y = both_parts (apart A x.0 x.1) _ x.2 in
      let vs : List Move = contact x.0 x.1 ∷ [] in
      inr (broken_exists m gs (domain A) vs (record { subject = x.0; target = x.1; across = y.0; only = refl }) ((realised m gs vs).1 (y.1, tt)) (domain_shortest m gs A)))
      (λ n. inl (domain_closed m gs A (λ s t a c. let e = ends m gs stays (contact s t) c in n (pair_from f s t e.0 e.1 (both (apart A s t) _ a c)))))
      (cases_test (pair_test f))

  -- every property is guaranteed or broken
  pub judged : (p : Property) → OfContexts m.contexts p → Verdict p
  judged (integrity A B) o = searched_judged (integrity A B) tt o
  judged (confidentiality A B) o = searched_judged (confidentiality A B) tt o
  judged (consistency A B) o = searched_judged (consistency A B) tt o
  judged (domain A) o = domain_judged A

few : (m : Meaning) (gs : Grants) → Sound m → (p : Property) {ss : List Step} → Broken m gs p ss → length ss ≤ m.contexts
few m gs l (integrity A B) b = broken_few m gs (sound_inside m l) (integrity A B) tt b
few m gs l (confidentiality A B) b = broken_few m gs (sound_inside m l) (confidentiality A B) tt b
few m gs l (consistency A B) b = broken_few m gs (sound_inside m l) (consistency A B) tt b
few m gs l (domain A) b = omega (arith, l.a_context, same_length b.shown, ap length b.sought.only)

pub verdict_laws : VerdictLaws
verdict_laws =
    record {
      legal = reduction;
      realised = realised;
      exhaustive = λ m gs l. judged m gs (sound_inside m l);
      exclusive = λ m gs p ss. never_both m gs;
      number = λ m gs p ss rr b c. omega (arith, one_number m gs b c, one_number m gs c b);
      few = λ m gs l p ss b. few m gs l p b;
      once = λ m gs p ss rr a b. one_first m gs a b;
    }
