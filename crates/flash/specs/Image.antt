-- Bytes in memory as a chip: one block to each 4,096 bytes, at most 1,000 blocks, and the rest unused.
use Rattle.std.specs.Prelude.{ℕ, zero, suc, ◌*◌, ◌/◌, ◌%◌, min, Bool, List, [], ◌∷◌, map, length, take, drop}
use Rattle.flash.specs.Chip.{Chip}

-- how many blocks so many bytes make
abbrev pub image_blocks : List ℕ → ℕ
image_blocks xs = min 1000 (length xs / 4096)

-- the first n pages
abbrev pub cut : ℕ → List ℕ → List (List ℕ)
cut zero xs = []
cut (suc n) xs = take 256 xs ∷ cut n (drop 256 xs)

-- the bytes, as a `u8` holds each: a list of a proof may hold any numbers, and a chip holds none above 255
abbrev pub octets : List ℕ → List ℕ
octets xs = map (λ x. x % 256) xs

-- the chip that these bytes are, with 16 pages to a block
abbrev pub image_chip : List ℕ → Bool → Chip
image_chip xs on = record { per_block = 16; blocks = image_blocks xs; pages = cut (16 * image_blocks xs) (octets xs); on = on }
