-- What is printed of a census.
use Rattle.std.specs.Prelude.{ℕ, List, ◌++◌, codes, decimal}
use Rattle.inspect.specs.declared.census.Census.{Census}
use Rattle.inspect.specs.declared.census.Numbers.{Numbers}

-- how many pages are in each state
abbrev pub counts_text : Census → List ℕ
counts_text c = decimal c.«data» ++ (codes " data, " ++ (decimal c.spoilt ++ (codes " spoilt, " ++ (decimal c.erased ++ codes " erased"))))

-- the numbers, from the lowest to the highest
abbrev pub numbers_text : Numbers → List ℕ
numbers_text n = decimal n.lowest ++ (codes " to " ++ decimal n.highest)
