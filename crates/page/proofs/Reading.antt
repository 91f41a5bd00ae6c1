-- What a reader finds in bytes that hold a number, a header, an entry or a chunk.
use Rattle.std.proofs.Common.{◌≡◌, ℕ, ◌+◌, ◌-◌, ◌*◌, ◌/◌, ◌%◌, ◌<◌, ◌≤◌, min, cond, eqb, List, ◌++◌, length, get_or, take, drop, sym, refl, ap, ◌∙◌, ap₂, arith, length-append}
use lib.ListN.{length-replicate}
use Rattle.std.proofs.lemmas.List.{get_or-take, get_or-drop, length-take-le, take_at}
use Rattle.std.proofs.lemmas.Slice.Eq.{bytes_eq-Decides}
use Rattle.page.specs.declared.fields.Header.{Header}
use Rattle.page.specs.declared.fields.EntryKind.{EntryKind}
use Rattle.page.specs.declared.fields.EntryKind.TheVariants.{File, Directory}
use Rattle.page.specs.declared.fields.Entry.{Entry}
use Rattle.page.specs.declared.fields.Chunk.{Chunk}
use Rattle.page.specs.declared.names.Name.{Name}
use Rattle.page.specs.Bits.{field}
use Rattle.page.specs.Encoded.{be24, be32, lead, packed, directory_bit}
use Rattle.page.specs.Fields.{header_at, name_at, kind_at, entry_at, chunk_at}
use Rattle.page.specs.Names.{padded, name_text}
use Rattle.page.proofs.BitLaws.{field_in, field_split, field_byte, field_32}
use Rattle.page.proofs.Packing.{unpacked}
use Rattle.page.proofs.Padding.{same_names}
use Rattle.page.proofs.Ranges.{HeaderRanges, NameRanges, EntryRanges, directory_bit_range}

-- a byte of a part whose bytes are known
byte_of : (q : List ℕ) (at m i : ℕ) (xs : List ℕ) → i < m → take m (drop at q) ≡ xs → get_or q (at + i) 0 ≡ get_or xs i 0
byte_of q at m i xs l e = sym (get_or-drop at q i 0) ∙ sym (get_or-take m (drop at q) i 0 l) ∙ ap (λ (ys : List ℕ). get_or ys i 0) e

pub number_read : (q : List ℕ) (at n : ℕ) → n < 4294967296 → take 4 (drop at q) ≡ be32 n → field q (8 * at) 32 ≡ n
number_read q at n l e =
    let z : get_or q (at + 0) 0 ≡ get_or q at 0 = ap (λ k. get_or q k 0) (omega arith) in
    let b0 : get_or q (at + 0) 0 ≡ n / 16777216 % 256 = byte_of q at 4 0 (be32 n) (omega arith) e in
    let b1 : get_or q (at + 1) 0 ≡ n / 65536 % 256 = byte_of q at 4 1 (be32 n) (omega arith) e in
    let b2 : get_or q (at + 2) 0 ≡ n / 256 % 256 = byte_of q at 4 2 (be32 n) (omega arith) e in
    let b3 : get_or q (at + 3) 0 ≡ n % 256 = byte_of q at 4 3 (be32 n) (omega arith) e in
    let f = field_32 q at (omega arith) (omega arith) (omega arith) (omega arith) in
    omega arith

pub kind_read : (q : List ℕ) (kind : ℕ) (h : Header) → HeaderRanges h → kind < 4 → get_or q 2 0 ≡ lead kind h → field q 16 3 ≡ kind
kind_read q kind h r l e =
    let i = r.inside in
    let f : field q 16 3 ≡ get_or q 2 0 / 32 % 8 = field_in q 2 0 3 (omega arith) in
    omega arith

header_made : ℕ → ℕ → ℕ → ℕ → ℕ → Header
header_made i s n f g = record { index = i; size = s; number = n; floor = f; file = g }

pub header_read : (q : List ℕ) (kind : ℕ) (h : Header) →
    HeaderRanges h → kind < 4 → h.number < 4294967296 → h.file ≤ h.number →
    get_or q 2 0 ≡ lead kind h → take 4 (drop 3 q) ≡ be32 h.number → take 4 (drop 7 q) ≡ be32 h.floor → take 4 (drop 11 q) ≡ be32 h.file →
    header_at q ≡ h
unfolding header_made
header_read q kind h r l ln lf e en ef eg =
    let fi : field q 19 2 ≡ get_or q 2 0 / 8 % 4 = field_in q 2 3 2 (omega arith) in
    let fs : field q 21 2 ≡ get_or q 2 0 / 2 % 4 = field_in q 2 5 2 (omega arith) in
    let i : field q 19 2 ≡ h.index = omega arith in
    let s : field q 21 2 + 1 ≡ h.size = omega arith in
    let n : field q 24 32 ≡ h.number = number_read q 3 h.number ln en in
    let f : field q 56 32 ≡ h.floor = number_read q 7 h.floor (omega arith) ef in
    let g : field q 88 32 ≡ h.file = number_read q 11 h.file (omega arith) eg in
    ap₂ (λ (a b : ℕ). header_made a b (field q 24 32) (field q 56 32) (field q 88 32)) i s
    ∙ ap₂ (λ (a b : ℕ). header_made h.index h.size a b (field q 88 32)) n f
    ∙ ap (λ (a : ℕ). header_made h.index h.size h.number h.floor a) g

-- the places of a name are its bytes and zeros
pub name_long : (n : Name) → NameRanges n → length (name_text n) ≡ n.len
name_long n r =
    let e : n.bytes ≡ padded (name_text n) = (bytes_eq-Decides n.bytes (padded (name_text n))).0 r.zeros in
    let t = name_text n in
    let l : length n.bytes ≡ length t + (24 - length t) = ap length e ∙ length-append t _ ∙ ap (λ k. length t + k) (length-replicate (24 - length t) 0) in
    let few : min 24 n.len ≡ n.len = omega (arith, r.short) in
    ap (λ k. length (take k n.bytes)) few ∙ length-take-le n.len n.bytes (omega (arith, r.short))

pub name_read : (q : List ℕ) (n : Name) (rest : List ℕ) → NameRanges n → field q 166 5 ≡ n.len → drop 22 q ≡ name_text n ++ rest → name_at q ≡ n
name_read q n rest r e d =
    let t = name_text n in
    let few : min 24 (field q 166 5) ≡ n.len = omega (arith, r.short) in
    let part : take (min 24 (field q 166 5)) (drop 22 q) ≡ t =
    ap (λ k. take k (drop 22 q)) few ∙ ap (take n.len) d ∙ take_at t rest n.len (name_long n r)
    in
    same_names (name_at q) n e (ap padded part ∙ sym ((bytes_eq-Decides n.bytes (padded t)).0 r.zeros))

kind_back : (k : EntryKind) → cond (eqb (directory_bit k) 1) Directory File ≡ k
kind_back File = refl
kind_back Directory = refl

entry_made : ℕ → EntryKind → ℕ → Name → Entry
entry_made d k l n = record { directory = d; kind = k; length = l; name = n }

pub entry_read : (q : List ℕ) (e : Entry) (rest : List ℕ) →
    EntryRanges e → e.directory < 4294967296 →
    take 4 (drop 15 q) ≡ be32 e.directory → take 3 (drop 19 q) ≡ be24 (packed e) → drop 22 q ≡ name_text e.name ++ rest →
    entry_at q ≡ e
unfolding entry_made
entry_read q e rest r ld ed ep en =
    let b = directory_bit_range e.kind in
    let short = r.short in
    let few : e.name.len ≤ 24 = r.named.short in
    let p = packed e in
    let u = unpacked (directory_bit e.kind) e.length e.name.len p b (omega arith) (omega arith) refl in
    let b19 : get_or q 19 0 ≡ p / 65536 % 256 = byte_of q 19 3 0 (be24 p) (omega arith) ep in
    let b20 : get_or q 20 0 ≡ p / 256 % 256 = byte_of q 19 3 1 (be24 p) (omega arith) ep in
    let b21 : get_or q 21 0 ≡ p % 256 = byte_of q 19 3 2 (be24 p) (omega arith) ep in
    let fl : field q 153 13 ≡ field q 153 7 * 64 + field q 160 6 = field_split q 153 7 6 in
    let fh : field q 153 7 ≡ p / 65536 % 256 / 1 % 128 = field_in q 19 1 7 (omega arith) ∙ ap (λ t. t / 1 % 128) b19 in
    let fw : field q 160 6 ≡ p / 256 % 256 / 4 % 64 = field_in q 20 0 6 (omega arith) ∙ ap (λ t. t / 4 % 64) b20 in
    let fn : field q 166 5 ≡ field q 166 2 * 8 + field q 168 3 = field_split q 166 2 3 in
    let fm : field q 166 2 ≡ p / 256 % 256 / 1 % 4 = field_in q 20 6 2 (omega arith) ∙ ap (λ t. t / 1 % 4) b20 in
    let fo : field q 168 3 ≡ p % 256 / 32 % 8 = field_in q 21 0 3 (omega arith) ∙ ap (λ t. t / 32 % 8) b21 in
    let d : field q 120 32 ≡ e.directory = number_read q 15 e.directory ld ed in
    let k : field q 152 1 ≡ directory_bit e.kind = field_in q 19 0 1 (omega arith) ∙ ap (λ t. t / 128 % 2) b19 ∙ u.kind in
    let l : field q 153 13 ≡ e.length = fl ∙ ap₂ (λ x y. x * 64 + y) fh fw ∙ u.long in
    let n : field q 166 5 ≡ e.name.len = fn ∙ ap₂ (λ x y. x * 8 + y) fm fo ∙ u.named in
    let kind : kind_at q ≡ e.kind = ap (λ t. cond (eqb t 1) Directory File) k ∙ kind_back e.kind in
    let name : name_at q ≡ e.name = name_read q e.name rest r.named n en in
    ap₂ (λ (x : ℕ) (y : EntryKind). entry_made x y (field q 153 13) (name_at q)) d kind
    ∙ ap₂ (λ (x : ℕ) (y : Name). entry_made e.directory e.kind x y) l name

pub chunk_read : (q : List ℕ) (c : Chunk) (rest : List ℕ) → c.index < 32 → length c.bytes ≡ 224 → get_or q 15 0 ≡ c.index → drop 16 q ≡ c.bytes ++ rest → chunk_at q ≡ c
chunk_read q c rest small long ei eb =
    let i : field q 120 8 ≡ c.index = field_byte q 15 (omega arith) ∙ ei in
    let bytes : take 224 (drop 16 q) ≡ c.bytes = ap (take 224) eb ∙ take_at c.bytes rest 224 long in
    ap₂ (λ (x : ℕ) (y : List ℕ). record { index = x; bytes = y }) i bytes
