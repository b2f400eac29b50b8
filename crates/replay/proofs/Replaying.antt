-- Requests answered in turn.
use Rattle.std.proofs.Common.{◌≡◌, ℕ, ◌+◌, ◌<◌, min, Bool, List, [], ◌∷◌, ◌++◌, map, length, take, drop, set, get_or, is_some, refl, sym, ap, ◌∙◌, subst, arith, length-set}
use Rattle.std.proofs.lemmas.List.{take_more, take_more_set, drop-set-lt, take_min, drop_min, drop-drop, map-append}
use Rattle.sheet.specs.Book.{Book, fed, fed_all}
use Rattle.sheet.proofs.WithdrawalLaw.{withdrawal_restores}
use Rattle.sheet.specs.declared.request.Request.{Request}
use Rattle.replay.specs.Replies.{Reply, reply_of, Right, Replies, none, next}
use Rattle.replay.specs.Promise.{served, Promise}
use Rattle.replay.specs.declared.answer.Answer.{Answer}

fed_append : (b : Book) (xs ys : List Request) → fed_all b (xs ++ ys) ≡ fed_all (fed_all b xs) ys
fed_append b [] ys = refl
fed_append b (x ∷ xs) ys = fed_append (fed b x) xs ys

replies_more : {b : Book} {qs : List Request} {rs : List Reply} → Replies b qs rs → (q : Request) (r : Reply) → Right (fed_all b qs) q r → Replies b (qs ++ q ∷ []) (rs ++ r ∷ [])
replies_more none q r right = next right none
replies_more (next h hs) q r right = next h (replies_more hs q r right)

-- the first i requests are answered
pub record Going (start : Book) (requests : List Request) (before after : List Answer) (i : ℕ) (book : Book) : Type 0 where
  pub replies : Replies start (take i requests) (map reply_of (take i after))
  pub behind : drop i after ≡ drop i before
  pub count : length after ≡ length before
  pub shows : book ≡ fed_all start (take i requests)

module _ (start : Book) (requests : List Request) (before : List Answer) where
  pub none_yet : (book : Book) → book ≡ start → Going start requests before before 0 book
  none_yet book e = record { replies = none; behind = refl; count = refl; shows = e }

  pub one_more : (after : List Answer) (i : ℕ) (d : Request) (old new : Book) (a : Answer) → i < length requests → i < length after → Going start requests before after i old
      → Right old (get_or requests i d) (reply_of a) → new ≡ fed old (get_or requests i d) → Going start requests before (set after i a) (i + 1) new
  one_more after i d old new a lt room g right fresh =
      let q = get_or requests i d in
      let shows = g.shows in
      let right' : Right (fed_all start (take i requests)) q (reply_of a) = subst (λ (b : Book). Right b q (reply_of a)) shows right in
      record {
        replies = rw (take_more requests i d lt, take_more_set after i a room, map-append reply_of (take i after) (a ∷ [])) (replies_more g.replies q (reply_of a) right');
        behind = drop-set-lt (i + 1) after i a (omega arith) ∙ further i after before g.behind;
        count = length-set after i a ∙ g.count;
        shows = rw (take_more requests i d lt, fed_append start (take i requests) (q ∷ [])) (fresh ∙ ap (λ (b : Book). fed b q) shows);
      }
    where
      further : (i : ℕ) (xs ys : List Answer) → drop i xs ≡ drop i ys → drop (i + 1) xs ≡ drop (i + 1) ys
      further i xs ys e = sym (drop-drop 1 i xs) ∙ ap (drop 1) e ∙ drop-drop 1 i ys

-- all that there is room for are answered
pub promised : (start : Book) (requests : List Request) (before after : List Answer) (i : ℕ) (book : Book) (held : Bool) → i ≡ min (length requests) (length after) → Going start requests before after i book → held ≡ is_some book.change
    → Promise start requests before after book held
promised start requests before after i book held all g holds =
    let all' : i ≡ min (length after) (length requests) = omega arith in
    let front : take i requests ≡ served requests after = ap (λ k. take k requests) all' ∙ take_min (length after) requests in
    let answered : take i after ≡ take (length requests) after = ap (λ k. take k after) all ∙ take_min (length requests) after in
    let left : drop i after ≡ drop (length requests) after = ap (λ k. drop k after) all ∙ drop_min (length requests) after in
    let was : drop i before ≡ drop (length requests) before = ap (λ k. drop k before) (all ∙ ap (min (length requests)) g.count) ∙ drop_min (length requests) before in
    record {
      replies = rw (front, answered) at g.replies;
      behind = sym left ∙ g.behind ∙ was;
      shows = g.shows ∙ ap (fed_all start) front;
      holds = holds;
      restored = withdrawal_restores;
    }
