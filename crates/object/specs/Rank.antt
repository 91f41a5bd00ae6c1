-- The order of keys.
use Rattle.std.specs.Prelude.{ℕ, ◌+◌, ◌*◌}
use Rattle.object.specs.declared.key.Key.{Key}

-- by file, and within a file by part, which is below 256
abbrev pub key_rank : Key → ℕ
key_rank k = k.file * 256 + k.part
