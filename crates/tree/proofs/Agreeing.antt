-- Two ways to have the same entries: what is said of the one is said of the other.
use Rattle.std.proofs.Common.{ℕ, Some, None, Option, Ok, Err, Result}
use Rattle.page.specs.declared.fields.Entry.{Entry}
use Rattle.tree.specs.declared.sound.TreeFault.{TreeFault}
use Rattle.tree.specs.declared.sound.TreeFault.TheVariants as fault
use Rattle.tree.specs.Sound.{Checks, Faults}
use Rattle.tree.specs.Tree.{Entries, Rooted, Unreached, Namesakes}
use Rattle.tree.proofs.Paths.{stands_more}

module _ (E F : Entries) (there : (f : ℕ) (e : Entry) → E f e → F f e) (back : (f : ℕ) (e : Entry) → F f e → E f e) where
  pub rooted_same : Rooted E → Rooted F
  rooted_same rooted file e x =
      let (path, s) = rooted file e (back file e x) in
      (path, stands_more E F there 8 file path s)

  pub unreached_same : Unreached E → Unreached F
  unreached_same (file, e, x, none) = (file, e, there file e x, λ path s. none path (stands_more F E back 8 file path s))

  pub namesakes_same : Namesakes E → Namesakes F
  namesakes_same n = record {
    one = n.one;
    other = n.other;
    apart = n.apart;
    entry = n.entry;
    namesake = n.namesake;
    here = there n.one n.entry n.here;
    there = there n.other n.namesake n.there;
    alike = n.alike;
  }

pub faults_same : (E F : Entries) → ((f : ℕ) (e : Entry) → E f e → F f e) → ((f : ℕ) (e : Entry) → F f e → E f e) → (r : Option TreeFault) → Faults E r → Faults F r
faults_same E F there back None says = (rooted_same E F there back says.0, λ n. says.1 (namesakes_same F E back there n))
faults_same E F there back (Some fault.Unreached) says = unreached_same E F there back says
faults_same E F there back (Some fault.Namesakes) says = (rooted_same E F there back says.0, namesakes_same E F there back says.1)

pub checks_same : (E F : Entries) → ((f : ℕ) (e : Entry) → E f e → F f e) → ((f : ℕ) (e : Entry) → F f e → E f e) → (r : Result (Unit {0}) TreeFault) → Checks E r → Checks F r
checks_same E F there back (Ok u) says = faults_same E F there back None says
checks_same E F there back (Err why) says = faults_same E F there back (Some why) says
