-- The names of files and directories, and how a name fills its 24 places.
use Rattle.std.specs.Prelude.{ℕ, ◌-◌, min, Bool, not, ◌&&◌, ◌||◌, List, ◌++◌, length, take, replicate, codes, ◌==◌, nat_le}
use Rattle.std.specs.List.{list_all}
use Rattle.std.specs.Str.{bytes_eq}
use Rattle.page.specs.declared.names.Name.{Name}

-- a byte that a name may hold: visible, and no slash
abbrev pub name_byte : ℕ → Bool
name_byte b = nat_le 33 b && nat_le b 126 && not (b == 47)

-- every byte may stand in a name
abbrev pub name_bytes : List ℕ → Bool
name_bytes bs = list_all name_byte bs

-- the two names that paths keep for themselves
abbrev pub dots : List ℕ → Bool
dots s = bytes_eq s (codes ".") || bytes_eq s (codes "..")

-- a name has 1 to 24 such bytes, and is neither "." nor ".."
abbrev pub allowed : List ℕ → Bool
allowed s = nat_le 1 (length s) && nat_le (length s) 24 && name_bytes s && not (dots s)

-- the 24 places of a name: its bytes, then zeros
abbrev pub padded : List ℕ → List ℕ
padded s = s ++ replicate (24 - length s) 0

-- the name with these bytes
abbrev pub named : List ℕ → Name
named s = record { len = length s; bytes = padded s }

-- the bytes of a name: as many as its length says, of its 24
abbrev pub name_text : Name → List ℕ
name_text n = take (min 24 n.len) n.bytes

-- zeros fill the places past a name's bytes
abbrev pub is_padded : Name → Bool
is_padded n = bytes_eq n.bytes (padded (name_text n))

-- a name is allowed, and zeros fill its places
abbrev pub name_fits : Name → Bool
name_fits n = nat_le n.len 24 && allowed (name_text n) && is_padded n
