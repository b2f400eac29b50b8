-- What a line of the program says.
use Rattle.std.specs.Prelude.{option_map}
use Rattle.words.specs.Left.{left, seen}
use Rattle.words.specs.Lines.{Said, context, constrain, vector, grant, property}
use Rattle.words.specs.declared.line.Line.{Line}
use Rattle.words.specs.declared.line.Line.TheVariants as line

-- the words of a line of the program, by its keyword
abbrev pub said : Line → Said
said (line.Context name level owner) = context (seen name) (seen level) (seen owner)
said (line.Constrain operations) = constrain (left operations)
said (line.Vector subject target operations) = vector (seen subject) (seen target) (left operations)
said (line.Grant number subjects targets operations) = grant (seen number) (seen subjects) (seen targets) (left operations)
said (line.Property number template first second) = property (seen number) (seen template) (seen first) (option_map seen second)
