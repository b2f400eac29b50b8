-- The twelve operations, their kinds, and sets of operations: bit o of a number stands for operation o.
use Rattle.std.specs.Prelude.{◌≡◌, ℕ, zero, suc, ◌-◌, ◌/◌, ◌%◌, ◌^◌, ◌<◌, ◌≤◌, Result, MatchResult, Bool, true, false, cond, List, [], ◌∷◌, codes, ◌==◌, bit_and, bit_or, nat_le, slice_index_or}
use Rattle.access.specs.declared.operation.Kind.{Kind}
use Rattle.access.specs.declared.operation.Kind.TheVariants.{Reads, Writes, ReadsAndWrites, Executes, Becomes, Neither}
use Rattle.access.specs.declared.operation.Operation.{Operation}
use Rattle.access.specs.declared.operation.UnknownOperation.{UnknownOperation}
use Rattle.access.specs.declared.operation.Operation.TheVariants.{Read, Write, Append, Update, Execute, Become, Stat, Lock, Unlock, Signal, Send, Receive}

abbrev pub number_of : Operation → ℕ
number_of Read = 0
number_of Write = 1
number_of Append = 2
number_of Update = 3
number_of Execute = 4
number_of Become = 5
number_of Stat = 6
number_of Lock = 7
number_of Unlock = 8
number_of Signal = 9
number_of Send = 10
number_of Receive = 11

-- the operation with a number, or an error with a number that none of the twelve has
abbrev pub Numbered : ℕ → Result Operation UnknownOperation → Type 0
Numbered number r = MatchResult r (λ o. number_of o ≡ number) (λ e. (e.0 ≡ number) × (12 ≤ number))

abbrev pub name_of : Operation → List ℕ
name_of Read = codes "read"
name_of Write = codes "write"
name_of Append = codes "append"
name_of Update = codes "update"
name_of Execute = codes "execute"
name_of Become = codes "become"
name_of Stat = codes "stat"
name_of Lock = codes "lock"
name_of Unlock = codes "unlock"
name_of Signal = codes "signal"
name_of Send = codes "send"
name_of Receive = codes "receive"

-- the table of kinds: read write append update execute become stat lock unlock signal send receive
abbrev pub kinds : List Kind
kinds = Reads ∷ Writes ∷ Writes ∷ ReadsAndWrites ∷ Executes ∷ Becomes ∷ Reads ∷ Neither ∷ Neither ∷ Writes ∷ Writes ∷ Reads ∷ []

abbrev pub kind_of : ℕ → Kind
kind_of o = slice_index_or kinds o Neither

-- information goes from the target to the subject
abbrev pub read_like : Kind → Bool
read_like Reads = true
read_like Writes = false
read_like ReadsAndWrites = true
read_like Executes = false
read_like Becomes = false
read_like Neither = false

-- information goes from the subject to the target
abbrev pub write_like : Kind → Bool
write_like Reads = false
write_like Writes = true
write_like ReadsAndWrites = true
write_like Executes = false
write_like Becomes = false
write_like Neither = false

abbrev pub execute_like : Kind → Bool
execute_like Reads = false
execute_like Writes = false
execute_like ReadsAndWrites = false
execute_like Executes = true
execute_like Becomes = false
execute_like Neither = false

abbrev pub become_like : Kind → Bool
become_like Reads = false
become_like Writes = false
become_like ReadsAndWrites = false
become_like Executes = false
become_like Becomes = true
become_like Neither = false

-- tests of an operation's number
abbrev pub read_op : ℕ → Bool
read_op o = read_like (kind_of o)

abbrev pub write_op : ℕ → Bool
write_op o = write_like (kind_of o)

abbrev pub execute_op : ℕ → Bool
execute_op o = execute_like (kind_of o)

abbrev pub become_op : ℕ → Bool
become_op o = become_like (kind_of o)

abbrev pub any_op : ℕ → Bool
any_op o = true

-- whether a set holds an operation
abbrev pub has : ℕ → ℕ → Bool
has set o = (set / 2 ^ o % 2) == 1

-- the set of one operation
abbrev pub one : ℕ → ℕ
one o = 2 ^ o

-- a set less the operations of another
abbrev pub without : ℕ → ℕ → ℕ
without set part = set - bit_and set part

-- the operations below k that pass a test
abbrev pub set_of : (ℕ → Bool) → ℕ → ℕ
set_of test zero = 0
set_of test (suc k) = bit_or (cond (test k) (one k) 0) (set_of test k)

-- a set of sixteen bits holds one from 12 to 15
abbrev pub unknown : ℕ → Bool
unknown set = nat_le 4096 set

pub record Lowest (set o : ℕ) : Type 0 where
  pub held : has set o ≡ true
  pub none_below : (k : ℕ) → k < o → has set k ≡ false

-- a set holds none of the twelve operations
abbrev pub LacksAll : ℕ → Type 0
LacksAll set = (o : ℕ) → o < 12 → has set o ≡ false
