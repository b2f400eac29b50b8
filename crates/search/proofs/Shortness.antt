-- A shortest walk in a graph of n contexts at phases repeats no context, so it has fewer than n edges.
use Rattle.std.proofs.Common.{◌≡◌, ℕ, suc, ◌+◌, ◌<◌, ◌≤◌, true, ◌≢◌, ◌⊎◌, List, length, get_or, set, replicate, sym, refl, ◌∙◌, subst, inl, inr, ⊎_elim, arith, get_or-set_other}
use Rattle.std.proofs.lemmas.List.{length-set, length-replicate, get_or-replicate}
use Rattle.std.proofs.lemmas.Bool.{cases_eq}
use Rattle.search.specs.Problem.{Problem, Walk, Least, Short}
use Rattle.search.specs.Problem.Walk.{stay, step}
use Rattle.search.specs.Phased.{Phased}
use Rattle.search.specs.Queue.{total}
use Rattle.search.proofs.Frontier.{total_set, total_le, marks_set}
use Rattle.search.proofs.Distance.{total_none}

inside : {p : Problem} {a b k : ℕ} → Walk p a b k → b < p.nodes
inside (stay l) = l
inside (step w l e) = l

-- an edge in front of a walk
front : {p : Problem} {x y b m : ℕ} → x < p.nodes → p.edge x y ≡ true → Walk p y b m → Walk p x b (suc m)
front l e (stay m) = step (stay l) m e
front l e (step w m f) = step (front l e w) m f

-- where each edge from v leads from u too, a walk to u goes on as a walk from v does
switch : (p : Problem) (a u v i : ℕ) → Walk p a u i → ((w : ℕ) → w < p.nodes → p.edge v w ≡ true → p.edge u w ≡ true) →
    (b m : ℕ) → Walk p v b m → ((m ≡ 0) × (b ≡ v)) ⊎ Walk p a b (i + m)
switch p a u v i x f b m (stay l) = inl (refl, refl)
switch p a u v i x f b m (step {b = b'} {k = k'} w l e) =
    ⊎_elim
    (λ (z : (k' ≡ 0) × (b' ≡ v)).
    let n : suc i ≡ i + suc k' = omega (arith, z.0) in
    inr (subst (λ j. Walk p a b j) n (step x l (f b l (subst (λ y. p.edge y b ≡ true) z.1 e)))))
    (λ (r : Walk p a b' (i + k')).
    let n : suc (i + k') ≡ i + suc k' = omega arith in
    inr (subst (λ j. Walk p a b j) n (step r l e)))
    (switch p a u v i x f b' k' w)

-- before its j-th node a walk came by a context, at a phase of at most f
record Visit (p : Problem) (n : ℕ) (h : Phased p n) (a f j c : ℕ) : Type 0 where
  node : ℕ
  edges : ℕ
  walk : Walk p a node edges
  is : h.context node ≡ c
  before : edges < j
  earlier : h.phase node ≤ f

-- ts marks the j contexts that a walk came by
record Seen (p : Problem) (n : ℕ) (h : Phased p n) (a f j : ℕ) (ts : List ℕ) : Type 0 where
  size : length ts ≡ n
  marks : (c : ℕ) → c < n → get_or ts c 0 ≤ 1
  counted : total ts n ≡ j
  visits : (c : ℕ) → c < n → get_or ts c 0 ≡ 1 → Visit p n h a f j c

module _ (p : Problem) (n : ℕ) (h : Phased p n) (a : ℕ) where
  seen_none : Seen p n h a 0 0 (replicate n 0)
  seen_none =
      record {
        size = length-replicate {A = ℕ} n 0;
        marks = λ c l. omega (arith, get_or-replicate {A = ℕ} n c 0 0 l);
        counted = total_none (replicate n 0) n (λ v l. get_or-replicate {A = ℕ} n v 0 0 l);
        visits = λ c l e. absurd (omega (arith, get_or-replicate {A = ℕ} n c 0 0 l));
      }

  mark : (f j w : ℕ) (ts : List ℕ) → Seen p n h a f j ts → Walk p a w j → f ≤ h.phase w → get_or ts (h.context w) 0 ≡ 0 →
      Seen p n h a (h.phase w) (suc j) (set ts (h.context w) 1)
  mark f j w ts s x l z =
      let c<n : h.context w < n = h.few w (inside x) in
      let in_ts : h.context w < length ts = omega (arith, s.size) in
      record {
        size = simp length-set s.size;
        marks = λ c m. marks_set ts (h.context w) c in_ts (s.marks c m);
        counted = omega (arith, total_set ts n (h.context w) c<n in_ts z, s.counted);
        visits = λ c m o.
            ⊎_elim
            (λ (e : c ≡ h.context w). record { node = w; edges = j; walk = x; is = sym e; before = omega arith; earlier = omega arith })
            (λ (e : c ≡ h.context w → ⊥).
            let ne : c ≢ h.context w = e in
            let v = s.visits c m (sym (get_or-set_other ts (h.context w) c 1 0 ne) ∙ o) in
            record { node = v.node; edges = v.edges; walk = v.walk; is = v.is; before = omega (arith, v.before); earlier = omega (arith, v.earlier) })
            (cases_eq c (h.context w));
      }

  -- a walk that comes by a context again is not shortest
  again : (b f j v m : ℕ) → p.source a ≡ true → p.target b ≡ true → Least p (j + m) → Walk p a v j → Walk p v b m → f ≤ h.phase v →
      Visit p n h a f j (h.context v) → ⊥
  again b f j v m s t least x y l z =
      ⊎_elim
      (λ (q : (m ≡ 0) × (b ≡ v)).
      let o = least z.node z.edges
      (h.targets z.node v (inside z.walk) (inside x) z.is (omega (arith, z.earlier)) (subst (λ k. p.target k ≡ true) q.1 t))
      (record { start = a; begins = s; walk = z.walk }) in
      omega (arith, o, z.before))
      (λ (q : Walk p a b (z.edges + m)).
      let o = least b (z.edges + m) t (record { start = a; begins = s; walk = q }) in
      omega (arith, o, z.before))
      (switch p a z.node v z.edges z.walk
      (λ w k e. h.edges z.node v w (inside z.walk) (inside x) k z.is (omega (arith, z.earlier)) e)
      b m y)

  seen : (b : ℕ) → p.source a ≡ true → p.target b ≡ true → (v j m : ℕ) → Walk p a v j → Walk p v b m → Least p (j + m) →
      (ts : List ℕ) × Seen p n h a (h.phase v) (suc j) ts
  seen b s t v j m (stay l) y least =
      (_, mark 0 0 a (replicate n 0) seen_none (stay l) (omega arith) (get_or-replicate {A = ℕ} n (h.context a) 0 0 (h.few a l)))
  seen b s t v j m (step {b = v'} {k = j'} x l e) y least =
      let fewer : Least p (j' + suc m) = λ c k u w. omega (arith, least c k u w) in
      let r = seen b s t v' j' (suc m) x (front (inside x) e y) fewer in
      let up : h.phase v' ≤ h.phase v = h.forward v' v (inside x) l e in
      let c<n : h.context v < n = h.few v l in (
        _,
        mark (h.phase v') (suc j') v r.0 r.1 (step x l e) up
            (⊎_elim
            (λ (o : get_or r.0 (h.context v) 0 ≡ 0). o)
            (λ (o : get_or r.0 (h.context v) 0 ≡ 0 → ⊥).
            let one : get_or r.0 (h.context v) 0 ≡ 1 = omega (arith, r.1.marks (h.context v) c<n) in
            absurd (again b (h.phase v') (suc j') v m s t least (step x l e) y up (r.1.visits (h.context v) c<n one)))
            (cases_eq (get_or r.0 (h.context v) 0) 0)),
      )

pub short : (p : Problem) (n : ℕ) → Phased p n → Short p n
short p n h b k t w least =
    let l : Least p (k + 0) = λ c j u x. omega (arith, least c j u x) in
    let r = seen p n h w.start b w.begins t b k 0 w.walk (stay (inside w.walk)) l in
    omega (arith, r.1.counted, total_le r.0 n r.1.marks)
