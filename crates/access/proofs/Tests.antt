-- Tests as types: what a conjunction and a disjunction tell.
use Rattle.std.proofs.Common.{◌≡◌, ℕ, Bool, true, false, ◌&&◌, ◌||◌, T, ◌⊎◌, refl, inl, inr, arith}

pub both : (a b : Bool) → T a → T b → T (a && b)
both true b p q = q
both false b p q = p

pub both_parts : (a b : Bool) → T (a && b) → T a × T b
both_parts true b h = (tt, h)
both_parts false b h = elim h [ ]

pub left : (a b : Bool) → T a → T (a || b)
left true b p = tt
left false b p = elim p [ ]

pub right : (a b : Bool) → T b → T (a || b)
right true b p = tt
right false b p = p

pub either_part : (a b : Bool) → T (a || b) → T a ⊎ T b
either_part true b h = inl tt
either_part false b h = inr h

pub T_true : (a : Bool) → T a → a ≡ true
T_true true h = refl
T_true false h = elim h [ ]

pub T_false : (a : Bool) → (T a → ⊥) → a ≡ false
T_false true h = absurd (h tt)
T_false false h = refl

pub cases_test : (a : Bool) → T a ⊎ (T a → ⊥)
cases_test true = inl tt
cases_test false = inr (λ h. h)

-- a test has one answer
pub differ : {A : Type 0} → true ≡ false → A
differ e = let z : ◌≡◌ {A = ℕ} 0 1 = cc in absurd (omega arith)
