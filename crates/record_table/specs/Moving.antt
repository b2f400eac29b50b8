-- A record goes from one chain to the front of another.
use Rattle.std.specs.Prelude.{◌≡◌, ℕ, ◌≤◌, true, List, ◌∷◌, ◌≢◌, nat_eq, refl}
use Rattle.std.proofs.Common.{sym, subst, ◌∙◌, inl, inr, ⊎_elim}
use Rattle.std.proofs.lemmas.Bool.{cases_eq, eq-eqb, ne_eqb}
use Rattle.record_table.specs.declared.chains.Record.{Record}
use Rattle.record_table.specs.Laid.{Out, In, Linked}
use Rattle.record_table.specs.ChainsLemmas.{upd, out_owned, begins, linked_out}
use Rattle.record_table.specs.Unlinking.{without, without_out, in_without}

abbrev pub Links : ℕ → (ℕ → ℕ) → (ℕ → Record) → (ℕ → ℕ) → (ℕ → List ℕ) → Type 0
Links n first mem owner chains = (c : ℕ) → c ≤ n → Linked mem owner c (first c) (chains c)

abbrev pub Whole : ℕ → (ℕ → ℕ) → (ℕ → List ℕ) → Type 0
Whole n owner chains = (x : ℕ) → 1 ≤ x → x ≤ 1024 → (owner x ≤ n) × In x (chains (owner x))

-- the chains after record x left chain a
abbrev pub left : (ℕ → List ℕ) → ℕ → ℕ → ℕ → List ℕ
left chains a x = upd chains a (without x (chains a))

-- and came to the front of chain b
abbrev pub came : (ℕ → List ℕ) → ℕ → ℕ → ℕ → ℕ → List ℕ
came chains a b x = upd (left chains a x) b (x ∷ left chains a x b)

pub split : (P : ℕ → Type 0) (b : ℕ) → P b → ((c : ℕ) → (c ≢ b) → P c) → (c : ℕ) → P c
split P b at_b other c = ⊎_elim (λ e. subst P (sym e) at_b) (other c) (cases_eq c b)

module _ (n : ℕ) (first : ℕ → ℕ) (mem : ℕ → Record) (owner : ℕ → ℕ) (chains : ℕ → List ℕ) (links : Links n first mem owner chains) where
  -- the first record of a chain leaves it
  pub taken : (a : ℕ) → a ≤ n → 1 ≤ first a → Links n (upd first a (mem (first a)).next) mem owner (left chains a (first a))
  taken a an low = split (λ c. c ≤ n → Linked mem owner c (upd first a (mem (first a)).next c) (left chains a (first a) c)) a
      (λ h. rw (eq-eqb a a refl) at_a)
      (λ c ne h. rw (ne_eqb c a ne) (links c h))
    where
      rest : (xs : List ℕ) × (chains a ≡ first a ∷ xs)
      rest = begins mem owner a (first a) (chains a) (links a an) low

      own : Linked mem owner a (first a) (first a ∷ rest.0)
      own = subst (Linked mem owner a (first a)) rest.1 (links a an)

      at_a : Linked mem owner a (mem (first a)).next (without (first a) (chains a))
      at_a = rw rest.1 (rw (eq-eqb (first a) (first a) refl) own.5)

  module _ (a b x : ℕ) (own : owner x ≡ a) (ne : a ≡ b → ⊥) (an : a ≤ n) (bn : b ≤ n) where
    -- the record is in no chain then
    out : (c : ℕ) → c ≤ n → Out x (left chains a x c)
    out = split (λ c. c ≤ n → Out x (left chains a x c)) a
        (λ h. rw (eq-eqb a a refl) (without_out mem owner a (first a) x (chains a) (links a an)))
        (λ c na h. rw (ne_eqb c a na) (out_owned mem owner c (first c) x (chains c) (links c h) (λ e. na (sym e ∙ own))))

    pub out_other : (c : ℕ) → c ≤ n → (c ≢ a) → Out x (chains c)
    out_other c h na = out_owned mem owner c (first c) x (chains c) (links c h) (λ e. na (sym e ∙ own))

    pub at_from : came chains a b x a ≡ without x (chains a)
    at_from = rw (ne_eqb a b ne, eq-eqb a a refl) refl

    pub at_to : came chains a b x b ≡ x ∷ chains b
    at_to = rw (eq-eqb b b refl, ne_eqb b a (λ e. ne (sym e))) refl

    pub at_other : (c : ℕ) → (c ≢ a) → (c ≢ b) → came chains a b x c ≡ chains c
    at_other c na nb = rw (ne_eqb c b nb, ne_eqb c a na) refl

    pub moved_whole : Whole n owner chains → Whole n (upd owner x b) (came chains a b x)
    moved_whole whole y low high = ⊎_elim
        (λ e. rw (eq-eqb y x e) (bn, rw at_to (inl e)))
        (λ q. rw (ne_eqb y x q) ((whole y low high).0, stays q (owner y) (whole y low high).1))
        (cases_eq y x)
      where
        stays : (y ≢ x) → (c : ℕ) → In y (chains c) → In y (came chains a b x c)
        stays q = split (λ c. In y (chains c) → In y (came chains a b x c)) a
            (λ m. rw at_from (in_without y x (chains a) q m))
            (λ c na. ⊎_elim (λ e. λ m. subst (λ (z : ℕ). In y (came chains a b x z)) (sym e) (rw at_to (inr (subst (λ (z : ℕ). In y (chains z)) e m)))) (λ nb. λ m. rw (at_other c na nb) m) (cases_eq c b))

    -- after it left chain a, whatever was written for that, it is put in front of chain b
    pub moved : (x1 : 1 ≤ x) (xm : x ≤ 1024) (now_first : ℕ → ℕ) (new : ℕ → Record) → Links n now_first new owner (left chains a x) → (r : Record) → r.next ≡ now_first b
        → Links n (upd now_first b x) (upd new x r) (upd owner x b) (came chains a b x)
    moved x1 xm now_first new after r to = split (λ c. c ≤ n → Linked (upd new x r) (upd owner x b) c (upd now_first b x c) (came chains a b x c)) b
        (λ h. rw (eq-eqb b b refl) at_b)
        (λ c nb h. rw (ne_eqb c b nb) (linked_out new x r owner (upd owner x b) kept c (now_first c) (left chains a x c) (out c h) (after c h)))
      where
        kept : (y : ℕ) → (y ≢ x) → upd owner x b y ≡ owner y
        kept y q = rw (ne_eqb y x q) refl

        rest : Linked (upd new x r) (upd owner x b) b (now_first b) (left chains a x b)
        rest = linked_out new x r owner (upd owner x b) kept b (now_first b) (left chains a x b) (out b bn) (after b bn)

        at_b : Linked (upd new x r) (upd owner x b) b x (x ∷ left chains a x b)
        at_b = let same : nat_eq x x ≡ true = eq-eqb x x refl in (refl, x1, xm, rw same refl, out b bn, rw same (rw to rest))
