-- What the customer is promised of any list of requests, over every policy.
use Rattle.std.specs.Prelude.{◌≡◌, Bool, List, map, length, take, drop, is_some}
use Rattle.sheet.specs.Book.{Book, fed_all}
use Rattle.sheet.specs.Withdrawal.{WithdrawalRestores}
use Rattle.sheet.specs.declared.request.Request.{Request}
use Rattle.replay.specs.Replies.{reply_of, Replies}
use Rattle.replay.specs.declared.answer.Answer.{Answer}

-- the requests that are served: those for whose answers there is room
abbrev pub served : List Request → List Answer → List Request
served requests answers = take (length answers) requests

-- a list of requests to a sheet whose book was `start`: the lent answers before and after, the book at the end, and whether a change
-- is held then
pub record Promise (start : Book) (requests : List Request) (before after : List Answer) (end : Book) (held : Bool) : Type 0 where
  -- each answer in front is that of the book fed with the requests before it, and those behind are as before
  pub replies : Replies start (served requests after) (map reply_of (take (length requests) after))
  pub behind : drop (length requests) after ≡ drop (length requests) before
  pub shows : end ≡ fed_all start (served requests after)
  pub holds : held ≡ is_some end.change
  -- of any book, and so at any place of the list: after a change is opened and anything is called but adopting and withdrawing, a
  -- withdrawal is accepted, and every pair has then the written set that it had at the opening
  pub restored : WithdrawalRestores
