-- What is judged of a scan is what makes its tables sound.
use Rattle.std.proofs.Common.{ℕ, ◌<◌, ◌≤◌, length, Bool, Decides, refl, arith}
use Rattle.planner.specs.State.{Sound, Free}
use Rattle.planner.specs.Mountable.{found, Sized, Placed, Agree, Mountable}
use Rattle.planner.specs.Slots.{listed}
use Rattle.planner.specs.declared.scanned.Scanned.{Scanned}

pub judged_sound : (x : Scanned) → Sized (found x) → ((b : ℕ) → b < x.blocks → (found x).high b ≤ x.last) → ((k : ℕ) → k < length (listed x.slots) → Placed (found x) k)
    → ((j : ℕ) → j < length (listed x.slots) → (k : ℕ) → k < length (listed x.slots) → Agree (found x) j k) → Sound (found x)
judged_sound x sized last placed agree =
    record {
      wide = sized.wide;
      tall = sized.tall;
      room = sized.room;
      inside = λ k l. (placed k l).inside;
      fit = λ k l. (placed k l).fit;
      apart = λ j k l m. (agree j l k m).apart;
      unlike = λ j k l m. (agree j l k m).unlike;
      held = λ k l. (placed k l).held;
      counted = λ k l. (placed k l).counted;
      order = λ j k l m. (agree j l k m).order;
      highest = last;
      some = sized.some;
      low = sized.low;
      within = omega arith;
      headless = λ h. refl;
      written = λ k l e. absurd (omega (arith, (placed k l).inside, e));
      newest = λ h l. absurd (omega (arith, l));
    }

-- all that is asked of a scan, in its order
pub judged : (x : Scanned) → Sized (found x) → ((b : ℕ) → b < x.blocks → (found x).high b ≤ x.last) → ((k : ℕ) → k < length (listed x.slots) → Placed (found x) k)
    → ((j : ℕ) → j < length (listed x.slots) → (k : ℕ) → k < length (listed x.slots) → Agree (found x) j k) → (r : Bool) → Decides r ((b : ℕ) × Free (found x) b) → Decides r (Mountable (found x))
judged x sized last placed agree r free = (λ e. (judged_sound x sized last placed agree, sized.slim, sized.small, free.0 e), λ m. free.1 m.3)
