-- What the writes of a step do to the state.
use Rattle.std.proofs.Common.{◌≡◌, ℕ, ◌+◌, ◌<◌, List, length, get_or, set, Some, Option, sym, refl, ap, ◌∙◌, length-set}
use Rattle.std.proofs.lemmas.List.{get_or-set_same, get_or-set_other}
use Rattle.object.specs.declared.key.Key.{Key}
use Rattle.planner.specs.Moves.{Opened, Copied}
use Rattle.planner.specs.Shape.{shape, blank, head_of, used_of}
use Rattle.planner.specs.Slots.{listed}
use Rattle.planner.specs.declared.head.Head.{Head}
use Rattle.planner.specs.Order.{Slot}
use Rattle.planner.specs.declared.slots.Slots.{Slots}

pub open_writes : (slots : Slots) (high : List ℕ) (per blocks floor last : ℕ) (head : Option Head) (b : ℕ) → b < length high
    → Opened (shape slots high per blocks floor last head) b (shape slots (set high b 0) per blocks floor last (Some (record { block = b; used = 0 })))
open_writes slots high per blocks floor last head b real =
    record {
      per = refl;
      blocks = refl;
      count = refl;
      kept = λ k l. record { block = refl; index = refl; number = refl };
      here = get_or-set_same high b 0 0 real;
      high = λ c l ne. get_or-set_other high b c 0 0 ne;
      floor = refl;
      last = refl;
      head = refl;
      used = refl;
    }

module _ (slots moved : Slots) (high : List ℕ) (per blocks floor last : ℕ) (x : Option Head) (h : Head) (i f : ℕ) (key : Key) (is : x ≡ Some h) (real : i < length (listed slots))
    (headed : h.block < length high)
    (items : listed moved ≡ set (listed slots) i (record { key = key; place = record { block = h.block; index = h.used }; number = last + 1 })) where
  abbrev new : Slot
  new = record { key = key; place = record { block = h.block; index = h.used }; number = last + 1 }

  at : head_of blocks x ≡ h.block
  at = ap (head_of blocks) is

  on : used_of per x ≡ h.used
  on = ap (used_of per) is

  here : get_or (listed moved) i blank ≡ new
  here = ap (λ xs. get_or xs i blank) items ∙ get_or-set_same (listed slots) i new blank real

  pub moved_other : (k : ℕ) → (k ≡ i → ⊥) → get_or (listed moved) k blank ≡ get_or (listed slots) k blank
  moved_other k ne = ap (λ xs. get_or xs k blank) items ∙ get_or-set_other (listed slots) i k new blank ne

  pub copy_writes : Copied (shape slots high per blocks floor last x) i f
      (shape moved (set high h.block (last + 1)) per blocks f (last + 1) (Some (record { block = h.block; used = h.used + 1 })))
  copy_writes =
      record {
        per = refl;
        blocks = refl;
        count = ap length items ∙ length-set (listed slots) i new;
        block_here = ap (λ (y : Slot). y.place.block) here ∙ sym at;
        index_here = ap (λ (y : Slot). y.place.index) here ∙ sym on;
        number_here = ap (λ (y : Slot). y.number) here;
        kept = λ k l ne.
            record {
              block = ap (λ (y : Slot). y.place.block) (moved_other k ne);
              index = ap (λ (y : Slot). y.place.index) (moved_other k ne);
              number = ap (λ (y : Slot). y.number) (moved_other k ne);
            };
        here = ap (λ (b : ℕ). get_or (set high h.block (last + 1)) b 0) at ∙ get_or-set_same high h.block (last + 1) 0 headed;
        high = λ c l ne. get_or-set_other high h.block c (last + 1) 0 (λ e. ne (e ∙ sym at));
        floor = refl;
        last = refl;
        head = sym at;
        used = ap (λ (u : ℕ). u + 1) (sym on);
      }
