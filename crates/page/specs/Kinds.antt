-- The numbers of the kinds of pages.
use Rattle.std.specs.Prelude.{ℕ, cond, Ok, Err, Result, ◌==◌}
use Rattle.page.specs.declared.kinds.Kind.{Kind}
use Rattle.page.specs.declared.kinds.Kind.TheVariants as kind
use Rattle.page.specs.declared.fields.PageFault.{PageFault}
use Rattle.page.specs.declared.fields.PageFault.TheVariants.{OutOfRange}

-- the number of a kind
abbrev pub number_of : Kind → ℕ
number_of kind.Note = 0
number_of kind.Entry = 1
number_of kind.Chunk = 2
number_of kind.Gone = 3

-- the kind with a number, 0 to 3
abbrev pub kind_of : ℕ → Result Kind PageFault
kind_of n =
    cond (n == 0) (Ok kind.Note) (cond (n == 1) (Ok kind.Entry) (cond (n == 2) (Ok kind.Chunk) (cond (n == 3) (Ok kind.Gone) (Err OutOfRange))))
