-- Why and where a policy text is refused.
use Rattle.std.specs.Prelude.{ℕ, List, ◌++◌, codes, decimal}
use Rattle.access.specs.Refusals.{refusal_number}
use Rattle.access.specs.declared.refusal.Refusal.{Refusal}
use Rattle.access.specs.declared.refusal.Refusal.TheVariants.{LongText, UnfitLine, ContextCount, UnfitWord, UnfitName}
use Rattle.policy_text.specs.declared.fault.Fault.{Fault}

-- lines are the first layer, words the second, and the calls of the sheet the third
abbrev pub layer_of : Refusal → ℕ
layer_of LongText = 1
layer_of UnfitLine = 1
layer_of ContextCount = 1
layer_of UnfitWord = 2
layer_of UnfitName = 2
layer_of _ = 3

-- fault NUMBER line L column C layer Y
abbrev pub fault_words : Fault → List ℕ
fault_words f = codes "fault " ++ decimal (refusal_number f.refusal) ++ codes " line " ++ decimal f.line ++ codes " column " ++ decimal f.column ++ codes " layer " ++ decimal (layer_of f.refusal)
