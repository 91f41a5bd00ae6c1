-- Entries that are shown are no longer than a file may be.
use Rattle.std.proofs.Common.{◌≡◌, ℕ, ◌≤◌, true, refl, ap, subst, arith}
use Rattle.std.proofs.lemmas.Bool.{and_parts, leb-true, eqb-true}
use Rattle.flash.specs.Chip.{Chip}
use Rattle.object.specs.declared.value.Object.TheVariants as object
use Rattle.page.specs.declared.fields.Content.{Content}
use Rattle.page.specs.declared.fields.Entry.{Entry}
use Rattle.page.specs.declared.fields.EntryKind.{EntryKind}
use Rattle.page.specs.declared.fields.EntryKind.TheVariants.{File, Directory}
use Rattle.page.specs.Fits.{fits, header_fits, file_fits, length_fits, entry_fits, content_fits}
use Rattle.page.specs.Names.{name_fits}
use Rattle.page.proofs.Decodes.{decoded_ok}
use Rattle.replay.specs.Entries.{EntryShown}
use Rattle.replay.specs.Log.{LogOf, entry_key, Counts}
use Rattle.replay.proofs.Tied.{entry_by}

short_by : (k : EntryKind) (n : ℕ) → length_fits k n ≡ true → n ≤ 7168
short_by File n t = leb-true n 7168 t
short_by Directory n t = omega (arith, eqb-true n 0 t)

entry_same : (a b : Entry) → object.Entry a ≡ object.Entry b → a ≡ b
entry_same a b e = cc

pub entry_short : (c : Chip) (f file : ℕ) (e : Entry) → EntryShown (Counts (LogOf c) f) file e → e.length ≤ 7168
unfolding fits
entry_short c f file e s =
    let p = s.by in
    let (x, is, value) = entry_by p.page.header.file p.page.content (entry_key file) (object.Entry e) s.gives refl in
    let fit = (decoded_ok _ p.page s.counted.here.1).1.fitting in
    let whole = (and_parts (header_fits p.page.header) (content_fits p.page.header p.page.content) fit).1 in
    let entry = (and_parts (file_fits p.page.header) (entry_fits x) (subst (λ (t : Content). content_fits p.page.header t ≡ true) is whole)).1 in
    omega (arith, short_by x.kind x.length (and_parts (length_fits x.kind x.length) (name_fits x.name) entry).0, ap (λ (y : Entry). y.length) (entry_same e x value))
