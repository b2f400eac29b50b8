-- A call more.
use Rattle.std.proofs.Common.{◌≡◌, ℕ, ◌≤◌, Bool, true, false, not, T, List, [], ◌∷◌, ◌++◌, length, Some, None, Ok, Err, Option, Result, ◌==◌, refl, sym, ap, ◌∙◌, subst, arith}
use Rattle.std.proofs.lemmas.Bool.Decides.{nat_tests}
use Rattle.access.specs.Refusals.{first_of, answer}
use Rattle.access.specs.declared.refusal.Refusal.{Refusal}
use Rattle.access.specs.declared.refusal.Refusal.TheVariants.{ContextCount}
use Rattle.sheet.specs.Book.{Book, refusal, fed, fed_all, start}
use Rattle.sheet.specs.Shown.{shown}
use Rattle.sheet.specs.declared.request.Request.{Request}
use Rattle.words.specs.declared.flaw.Flaw.{Flaw}
use Rattle.policy_text.specs.Calls.{then}
use Rattle.policy_text.specs.Called.{flaw_of, Answers}
use Rattle.policy_text.specs.Reading.{Reading, meaning_of, book_of, has_call, no_context}
use Rattle.policy_text.specs.Lines.{unless_refused, with_call, called}
use Rattle.policy_text.specs.Shown.{reading, Holds, Opened, Follows}
use Rattle.policy_text.specs.declared.reader.Reader.{Reader}

fed_all-append : (b : Book) (qs : List Request) (q : Request) → fed_all b (qs ++ q ∷ []) ≡ fed (fed_all b qs) q
fed_all-append b [] q = refl
fed_all-append b (r ∷ qs) q = fed_all-append (fed b r) qs q

some_call : (qs : List Request) (q : Request) → true ≡ not (length (qs ++ q ∷ []) == 0)
some_call [] q = refl
some_call (r ∷ qs) q = grind (arith, nat_tests)

no_calls : (qs : List Request) → not (length qs == 0) ≡ false → qs ≡ []
no_calls [] e = refl
no_calls (q ∷ qs) e = absurd (grind (arith, nat_tests))

true_from : (b : Bool) → T b → b ≡ true
true_from true t = refl
true_from false t = absurd t

one_more : (p : Reading) (r : Reader) (q : Request) → p ≡ reading r.head p.calls → T r.called → shown r.sheet ≡ fed (book_of p) q → Holds (with_call p q) r
one_more p r q says is shows = record {
  says = ap (λ x. with_call x q) says;
  called = true_from r.called is ∙ some_call p.calls q;
  shows = λ _. shows ∙ sym (fed_all-append (start (meaning_of p)) p.calls q);
}

-- a line that asks for a call is followed as the call is answered
pub followed_call : (p : Reading) (r r' : Reader) (asked : List (List ℕ) → Book → Result Request Flaw) (result : Result (Unit {0}) Flaw)
    → Opened p r → r'.head ≡ r.head → r'.called ≡ r.called → Answers (shown r.sheet) (asked r.head.names (shown r.sheet)) result (shown r'.sheet) → Follows (then (asked p.names (book_of p)) (called p)) result r'
followed_call p r r' asked result o head is answers =
    let names : r.head.names ≡ p.names = ap (λ (x : Reading). x.names) (sym o.says) in
    by_asked (asked p.names (book_of p)) (rw (names, o.shows) at answers)
  where
    by_refusal : (q : Request) (why : Option Refusal) → result ≡ flaw_of (answer why) → shown r'.sheet ≡ fed (book_of p) q → Follows (unless_refused why (Ok (with_call p q))) result r'
    by_refusal q None a b = (a, one_more p r' q (o.says ∙ ap (λ h. reading h p.calls) (sym head)) (subst T (sym is) o.called) b)
    by_refusal q (Some w) a b = a

    by_asked : (a : Result Request Flaw) → Answers (book_of p) a result (shown r'.sheet) → Follows (then a (called p)) result r'
    by_asked (Err flaw) a = a.0
    by_asked (Ok q) a = by_refusal q (refusal (book_of p) q) a.0 a.1

-- before the first call the book is that of a sheet that is laid out
pub opened : (p : Reading) (r : Reader) → p ≡ reading r.head p.calls → T r.called → has_call p ≡ false → no_context p ≡ false
    → (1 ≤ length r.head.names → shown r.sheet ≡ start (meaning_of (reading r.head []))) → Opened p r
opened p r says is none some laid =
    let names : length p.names ≡ length r.head.names = ap (λ (x : Reading). length x.names) says in
    let book : start (meaning_of (reading r.head [])) ≡ book_of p = ap (λ x. start (meaning_of x)) (sym says) ∙ ap (fed_all (start (meaning_of p))) (sym (no_calls p.calls none)) in
    record { says = says; called = is; shows = laid (grind (arith, nat_tests)) ∙ book }

-- a call may stand where a context is declared
pub some_context : (p : Reading) → first_of ((no_context p, ContextCount) ∷ []) ≡ None → no_context p ≡ false
some_context p may = by (no_context p) may
  where
    by : (b : Bool) → first_of ((b, ContextCount) ∷ []) ≡ None → b ≡ false
    by true e = absurd (cc)
    by false e = refl
