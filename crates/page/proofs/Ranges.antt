-- What a page that fits says of its fields, as facts in place of tests.
use Rattle.std.proofs.Common.{◌≡◌, ℕ, ◌<◌, ◌≤◌, true, arith}
use Rattle.std.proofs.lemmas.Bool.{and_parts, leb-true, ltb-true, eqb-true}
use Rattle.page.specs.declared.fields.Header.{Header}
use Rattle.page.specs.declared.fields.EntryKind.{EntryKind}
use Rattle.page.specs.declared.fields.EntryKind.TheVariants.{File, Directory}
use Rattle.page.specs.declared.fields.Entry.{Entry}
use Rattle.page.specs.declared.names.Name.{Name}
use Rattle.page.specs.Names.{allowed, name_text, is_padded, name_fits}
use Rattle.page.specs.Encoded.{directory_bit}
use Rattle.page.specs.Fits.{header_fits, length_fits, entry_fits}

pub record HeaderRanges (h : Header) : Type 0 where
  pub some : 1 ≤ h.size
  pub few : h.size ≤ 4
  pub inside : h.index < h.size
  pub counted : 1 ≤ h.floor
  pub low : h.floor ≤ h.number

pub header_ranges : (h : Header) → header_fits h ≡ true → HeaderRanges h
header_ranges h t =
    let a = and_parts _ _ t in
    let b = and_parts _ _ a.0 in
    let d = and_parts _ _ b.0 in
    let e = and_parts _ _ d.0 in
    record { some = leb-true _ _ e.0; few = leb-true _ _ e.1; inside = ltb-true _ _ d.1; counted = leb-true _ _ b.1; low = leb-true _ _ a.1 }

pub record NameRanges (n : Name) : Type 0 where
  pub short : n.len ≤ 24
  pub good : allowed (name_text n) ≡ true
  pub zeros : is_padded n ≡ true

pub name_ranges : (n : Name) → name_fits n ≡ true → NameRanges n
name_ranges n t =
    let a = and_parts _ _ t in
    let b = and_parts _ _ a.0 in
    record { short = leb-true _ _ b.0; good = b.1; zeros = a.1 }

pub record EntryRanges (e : Entry) : Type 0 where
  pub short : e.length ≤ 7168
  pub named : NameRanges e.name

length_range : (k : EntryKind) (n : ℕ) → length_fits k n ≡ true → n ≤ 7168
length_range File n t = leb-true n 7168 t
length_range Directory n t = let e : n ≡ 0 = eqb-true n 0 t in omega arith

pub entry_ranges : (e : Entry) → entry_fits e ≡ true → EntryRanges e
entry_ranges e t =
    let a = and_parts _ _ t in
    record { short = length_range e.kind e.length a.0; named = name_ranges e.name a.1 }

pub directory_bit_range : (k : EntryKind) → directory_bit k < 2
directory_bit_range File = omega arith
directory_bit_range Directory = omega arith
