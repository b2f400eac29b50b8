-- What the ticks and the places say while a search goes on.
use Rattle.std.specs.Prelude.{◌≡◌, ℕ, zero, suc, ◌+◌, ◌-◌, ◌<◌, ◌≤◌, Bool, true, false, not, ◌==◌, List, [], ◌∷◌, length, drop, Ok, Err, Option, Result, MatchOption, ◌≢◌, slice_index, slice_index_or}
use Rattle.search.specs.declared.lent.Cleared.{Cleared}
use Rattle.search.specs.declared.lent.List.{List as Places}
use Rattle.search.specs.Problem.{Problem, leads, Way, Nowhere, Least}
use Rattle.search.specs.Trails.{Trail, Before, NotAfter, Foremost}
use Rattle.search.specs.declared.breadth_first.Place.{Place}
use Rattle.search.specs.declared.breadth_first.TooShort.{TooShort}

-- what is read behind the last place
abbrev pub blank : Place
blank = record { node = 0; parent = 0; depth = 0 }

-- the place at an index
abbrev pub at : List Place → ℕ → Place
at ps i = slice_index_or ps i blank

-- the nodes of a place and of d places before it, each the parent of the one in front
abbrev pub back : List Place → ℕ → ℕ → List ℕ
back ps zero i = (at ps i).node ∷ []
back ps (suc d) i = (at ps i).node ∷ back ps d (at ps i).parent

-- the walk to a place, by its nodes: its parents lead back along it
abbrev pub way_back : List Place → ℕ → List ℕ
way_back ps i = back ps (at ps i).depth i

-- how many of the first n numbers are ticked
abbrev pub total : List ℕ → ℕ → ℕ
total ts zero = 0
total ts (suc n) = slice_index ts n + total ts n

-- one edge leads from the place b to the place q
pub record After (p : Problem) (b q : Place) : Type 0 where
  pub edge : p.edge b.node q.node ≡ true
  pub depth : q.depth ≡ b.depth + 1

-- the place q, at the index i, is a source, or comes after its parent, an earlier place
pub record Sound (p : Problem) (ps : List Place) (i : ℕ) (q : Place) : Type 0 where
  pub node : q.node < p.nodes
  pub low : q.depth ≤ i
  pub source : q.depth ≡ 0 → p.source q.node ≡ true
  pub earlier : 0 < q.depth → q.parent < i
  pub after : 0 < q.depth → After p (at ps q.parent) q

-- among the used places one is of the node v, at a depth of at most d
pub record At (ps : List Place) (used v d : ℕ) : Type 0 where
  pub index : ℕ
  pub below : index < used
  pub is : (at ps index).node ≡ v
  pub depth : (at ps index).depth ≤ d

-- no used place is a target
abbrev pub Open : Problem → List Place → ℕ → Type 0
Open p ps used = (i : ℕ) → i < used → p.target (at ps i).node ≢ true

-- no used place is deeper than d
abbrev pub Within : List Place → ℕ → ℕ → Type 0
Within ps used d = (i : ℕ) → i < used → (at ps i).depth ≤ d

-- there is a tick and a place for each node
pub record Fits (p : Problem) (ts : List ℕ) (ps : List Place) : Type 0 where
  pub ticks : p.nodes ≤ length ts
  pub places : p.nodes ≤ length ps

-- the ticked nodes are those that have a place, there are as many places as ticks, each place is sound, and depths do not fall
pub record Queue (p : Problem) (ts : List ℕ) (ps : List Place) (used : ℕ) : Type 0 where
  pub small : p.nodes < 65536
  pub fits : Fits p ts ps
  pub marks : (v : ℕ) → v < p.nodes → slice_index ts v ≤ 1
  pub counted : used ≡ total ts p.nodes
  pub placed : (v : ℕ) → v < p.nodes → slice_index ts v ≡ 1 → (i : ℕ) × (i < used) × ((at ps i).node ≡ v)
  pub ticked : (i : ℕ) → i < used → slice_index ts (at ps i).node ≡ 1
  pub sound : (i : ℕ) → i < used → Sound p ps i (at ps i)
  pub rising : (i j : ℕ) → i ≤ j → j < used → (at ps i).depth ≤ (at ps j).depth

-- the queue has grown from `used` places to `more`, and nothing else has changed
pub record Grown (p : Problem) (ts ts' : List ℕ) (ps ps' : List Place) (used more : ℕ) : Type 0 where
  pub queue : Queue p ts' ps' more
  pub sized : length ts' ≡ length ts
  pub further : used ≤ more
  pub same : (i : ℕ) → i < used → at ps' i ≡ at ps i
  pub beyond : drop more ps' ≡ drop more ps

-- the last place is a target, at the depth d
pub record Struck (p : Problem) (ts ts' : List ℕ) (ps ps' : List Place) (used more d : ℕ) : Type 0 where
  pub grown : Grown p ts ts' ps ps' used more
  pub some : 0 < more
  pub target : p.target (at ps' (more - 1)).node ≡ true
  pub depth : (at ps' (more - 1)).depth ≡ d

-- no target was met, and no place is deeper than d
pub record Went (p : Problem) (ts ts' : List ℕ) (ps ps' : List Place) (used more d : ℕ) : Type 0 where
  pub grown : Grown p ts ts' ps ps' used more
  pub «open» : Open p ps' more
  pub within : Within ps' more d

-- the place q is at the depth d, reached from the place `head`, of a node below `bound`
pub record Child (head d bound : ℕ) (q : Place) : Type 0 where
  pub parent : q.parent ≡ head
  pub depth : q.depth ≡ d
  pub below : q.node < bound

-- the places from `used` up to `more` are in rising order of the nodes below `bound` that had no place and to which `from` leads
pub record Children (p : Problem) (from : Option ℕ) (parent d : ℕ) (ps : List Place) (used more bound : ℕ) : Type 0 where
  pub each : (i : ℕ) → used ≤ i → i < more → Child parent d bound (at ps i)
  pub rising : (i j : ℕ) → used ≤ i → i < j → j < more → (at ps i).node < (at ps j).node
  pub fresh : (i j : ℕ) → i < used → used ≤ j → j < more → (at ps i).node ≢ (at ps j).node
  pub all : (v : ℕ) → v < bound → leads p from v ≡ true → (i : ℕ) × (i < more) × ((at ps i).node ≡ v)

-- all of them, or those up to the first target
abbrev pub Born : Problem → Option ℕ → ℕ → ℕ → List Place → ℕ → ℕ → Bool → Type 0
Born p from parent d ps used more true = Children p from parent d ps used more ((at ps (more - 1)).node + 1) × Open p ps (more - 1)
Born p from parent d ps used more false = Children p from parent d ps used more p.nodes

-- what a search may go on from, to reach places of depth d
pub record Ready (p : Problem) (ts : List ℕ) (ps : List Place) (used d : ℕ) : Type 0 where
  pub queue : Queue p ts ps used
  pub «open» : Open p ps used
  pub within : Within ps used d

-- the used places of one depth stand in the order of the walks to them, each of which is the first; the places before `head` are parents
pub record Ordered (p : Problem) (ps : List Place) (used head : ℕ) : Type 0 where
  pub order : (i j : ℕ) → i < j → j < used → (at ps i).depth ≡ (at ps j).depth → Before (way_back ps i) (way_back ps j)
  pub first : (i : ℕ) → i < used → (vs : List ℕ) → Trail p (at ps i).node vs → length vs ≡ suc (at ps i).depth → NotAfter (way_back ps i) vs
  pub parents : (i : ℕ) → i < used → 0 < (at ps i).depth → (at ps i).parent < head

-- the places before `head` have been scanned
pub record Spread (p : Problem) (ts : List ℕ) (ps : List Place) (used head : ℕ) : Type 0 where
  pub queue : Queue p ts ps used
  pub «open» : Open p ps used
  pub within : head < used → Within ps used ((at ps head).depth + 1)
  pub reached : head ≤ used
  pub sources : (v : ℕ) → v < p.nodes → p.source v ≡ true → At ps used v 0
  pub scanned : (i : ℕ) → i < head → (v : ℕ) → v < p.nodes → p.edge (at ps i).node v ≡ true → At ps used v ((at ps i).depth + 1)
  pub ordered : Ordered p ps used head

-- no more than the first `nodes` places are written
abbrev pub Kept : Problem → List Place → List Place → Type 0
Kept p ps ps' = drop p.nodes ps' ≡ drop p.nodes ps

-- the place `last` ends a shortest walk from a source to a target, and the parents lead back along it; no other as short comes before it
pub record Found (p : Problem) (ps : List Place) (last : ℕ) : Type 0 where
  pub below : last < p.nodes
  pub target : p.target (at ps last).node ≡ true
  pub sound : (i : ℕ) → i ≤ last → Sound p ps i (at ps i)
  pub way : Way p (at ps last).node (at ps last).depth
  pub least : Least p (at ps last).depth
  pub trail : Trail p (at ps last).node (way_back ps last)
  pub first : Foremost p (way_back ps last)

-- the place that was found, or none where no walk leads from a source to a target
abbrev pub Outcome : Problem → List Place → Option ℕ → Type 0
Outcome p ps r = MatchOption r (Nowhere p) (λ last. Found p ps last)

-- the outcome, or the refusal of memory that does not fit, which leaves the places as they were
abbrev pub Answered : Problem → List ℕ → List Place → List Place → Result (Option ℕ) TooShort → Type 0
Answered p ts ps ps' (Ok r) = Fits p ts ps × Outcome p ps' r
Answered p ts ps ps' (Err _) = (Fits p ts ps → ⊥) × (ps' ≡ ps)

-- a queue that a search may go on from, to reach places of depth d
abbrev pub Waiting : Problem → Cleared → Places Place → ℕ → Type 0
Waiting p t q d = Ready p t.bytes.now q.items.now q.len d

-- a part of a search met a target, or none
abbrev pub Stepped : Problem → Cleared → Cleared → Places Place → Places Place → ℕ → Bool → Type 0
Stepped p t t' q q' d true = Struck p t.bytes.now t'.bytes.now q.items.now q'.items.now q.len q'.len d
Stepped p t t' q q' d false = Went p t.bytes.now t'.bytes.now q.items.now q'.items.now q.len q'.len d

-- the memory is still the one that was lent
abbrev pub Lent : Cleared → Cleared → Places Place → Places Place → Type 0
Lent t t' q q' = (t'.bytes.ghost_name ≡ t.bytes.ghost_name) × (q'.items.ghost_name ≡ q.items.ghost_name)

-- a set of nodes has just the ticked ones
abbrev pub Ticked : Problem → Cleared → (ℕ → Bool) → Type 0
Ticked p t set = (v : ℕ) → v < p.nodes → set v ≡ not (slice_index t.bytes.now v == 0)

-- the place q was written behind the others
abbrev pub Pushed : Places Place → Places Place → Place → Type 0
Pushed l l' q = (l'.len ≡ l.len + 1) × (at l'.items.now l.len ≡ q)

-- a search ended at its last place, or nowhere
abbrev pub Ended : Problem → Places Place → Bool → Type 0
Ended p q true = (0 < q.len) × Found p q.items.now (q.len - 1)
Ended p q false = Nowhere p
