use Rattle.std.proofs.Common.{◌≡◌, ℕ, Some, None, Option, sym, ap, ◌∙◌, subst, arith}
use Rattle.page.specs.declared.fields.Entry.{Entry}
use Rattle.replay.specs.Entries.{entry_read, EntryPage}
use Rattle.replay.proofs.EntryTable.{entry_page_reads}
use Rattle.replay.proofs.Reading.{read_whole}
use Rattle.replay.proofs.entries.read_entry.Goals as goal

some_same : (a b : Entry) → ◌≡◌ {A = Option Entry} (Some a) (Some b) → a ≡ b
some_same a b e = cc

none_some : (a : Entry) → ◌≡◌ {A = Option Entry} None (Some a) → ⊥
none_some a e = let z : ◌≡◌ {A = ℕ} 0 1 = cc in omega arith

pub unreachable-requires : goal.unreachable-requires
unreachable-requires g c =
    let flash = c.args.powered.now.flash.now in
    let chip = g.F.ReadFlash.chip c.args.powered.now.flash.now in
    let whole = read_whole chip _ c.args.place c.args.work.now c.read.new.out (g.F.ReadFlash.formed flash) c.told-work c.in_ok-read.ensures in
    none_some c.requires.0 (c.in-None.ensures ∙ ap entry_read c.decode.ensures ∙ entry_page_reads chip c.args.place c.requires.0 c.read.new.out whole c.requires.1)

pub returns : goal.returns
returns g c =
    let flash = c.args.powered.now.flash.now in
    let chip = g.F.ReadFlash.chip c.args.powered.now.flash.now in
    let whole = read_whole chip _ c.args.place c.args.work.now c.read.new.out (g.F.ReadFlash.formed flash) c.told-work c.in_ok-read.ensures in
    subst (EntryPage chip c.args.place)
    (sym (some_same c.in-Some.entry c.requires.0 (c.in-Some.ensures ∙ ap entry_read c.decode.ensures ∙ entry_page_reads chip c.args.place c.requires.0 c.read.new.out whole c.requires.1)))
    c.requires.1
