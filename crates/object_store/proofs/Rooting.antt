-- No chunk is left without an entry exactly when every key that the batch sets stands.
use Rattle.std.proofs.Common.{◌≡◌, ℕ, Bool, true, false, not, ◌&&◌, ◌||◌, eqb, List, [], ◌∷◌, sym, refl, ap, ◌∙◌, ap₂, inl, inr}
use Rattle.std.proofs.Math.Bool.{or-false, or_assoc}
use Rattle.std.proofs.lemmas.Bool.{true≢false, false≢true, and_parts, and_from, or_parts, or_cases, or_left, or_right, not-true, eqb-true}
use Rattle.object.specs.declared.key.Key.{Key}
use Rattle.object_store.specs.declared.change.Change.{Change}
use Rattle.object_store.specs.declared.change.Change.TheVariants.{Set, Remove}
use Rattle.object_store.specs.Tables.{same_key, has_key, entry_of}
use Rattle.object_store.specs.Changes.{sets_key, sets_file, removes, in_order}
use Rattle.object_store.specs.Counts.{stands, all_stand}
use Rattle.object_store.specs.Fit.{entered, rooted}
use Rattle.object_store.specs.Objects.{Objects, key_of, keys_of, put, without, after_batch}
use Rattle.object_store.proofs.Keys.{same_file, same_itself}
use Rattle.object_store.proofs.Having.{has_put, has_kept}

-- a file that no change sets has no key that a change sets
unset_key : (cs : List Change) (k : Key) → sets_file cs k.file ≡ false → sets_key cs k ≡ false
unset_key [] k n = refl
unset_key (Remove g ∷ cs) k n = unset_key cs k n
unset_key (Set j v ∷ cs) k n =
    let parts = or_parts (eqb j.file k.file) (sets_file cs k.file) n in
    ap₂ (λ (a b : Bool). a || b) (ap (λ (b : Bool). b && eqb j.part k.part) parts.0) (unset_key cs k parts.1)

-- the keys after a batch: those of before and those it sets, but for the files that it removes
pub has_after : (cs : List Change) (os : Objects) (k : Key) → in_order cs ≡ true
    → has_key (keys_of (after_batch os cs)) k ≡ (not (removes cs k.file) && (has_key (keys_of os) k || sets_key cs k))
has_after [] os k t = sym (or-false (has_key (keys_of os) k))
has_after (Set j v ∷ cs) os k t =
    has_after cs (put os j v) k t ∙ ap (λ (b : Bool). not (removes cs k.file) && (b || sets_key cs k)) (has_put key_of os (record { key = j; object = v }) k)
    ∙ ap (λ (b : Bool). not (removes cs k.file) && b) (or_assoc (has_key (keys_of os) k) (same_key j k) (sets_key cs k))
has_after (Remove f ∷ cs) os k t =
    let parts = and_parts (not (sets_file cs f)) (in_order cs) t in
    has_after cs (without os f) k parts.1
    ∙ ap (λ (b : Bool). not (removes cs k.file) && (b || sets_key cs k)) (has_kept key_of (λ (g : ℕ). not (eqb f g)) os k)
    ∙ by (eqb f k.file) (removes cs k.file) (has_key (keys_of os) k) (sets_key cs k)
    (λ e. unset_key cs k (ap (sets_file cs) (sym (eqb-true f k.file e)) ∙ not-true (sets_file cs f) parts.0)) refl
  where
    by : (e r h s : Bool) → (eqb f k.file ≡ true → s ≡ false) → eqb f k.file ≡ e → (not r && ((not e && h) || s)) ≡ (not (e || r) && (h || s))
    by true true h s none q = refl
    by true false h s none q = none q
    by false r h s none q = refl

entry_alike : (ks : List Key) (j k : Key) → same_key j k ≡ true → has_key ks (entry_of j) ≡ has_key ks (entry_of k)
entry_alike ks j k e = ap (λ (f : ℕ). has_key ks (record { file = f; part = 0 })) (same_file j k e)

entered_gives : (all ks : List Key) → entered all ks ≡ true → (k : Key) → has_key ks k ≡ true → has_key all (entry_of k) ≡ true
entered_gives all [] t k h = absurd (false≢true h)
entered_gives all (j ∷ js) t k h =
    let parts = and_parts (has_key all (entry_of j)) (entered all js) t in
    elim (or_cases (same_key j k) (has_key js k) h) [ inl e ↦ sym (entry_alike all j k e) ∙ parts.0 | inr m ↦ entered_gives all js parts.1 k m ]

entered_from : (all ks : List Key) → ((k : Key) → has_key ks k ≡ true → has_key all (entry_of k) ≡ true) → entered all ks ≡ true
entered_from all [] each = refl
entered_from all (j ∷ js) each =
    and_from (has_key all (entry_of j)) (entered all js) (each j (or_left (same_key j j) (has_key js j) (same_itself j)))
    (entered_from all js (λ k h. each k (or_right (same_key j k) (has_key js k) h)))

-- what standing says of a key that is set
abbrev stands_key : List Key → List Change → Key → Bool
stands_key ks all k = removes all k.file || has_key ks (entry_of k) || sets_key all (entry_of k)

stands_alike : (ks : List Key) (all : List Change) (j k : Key) → same_key j k ≡ true → stands_key ks all j ≡ stands_key ks all k
stands_alike ks all j k e = ap (λ (f : ℕ). removes all f || has_key ks (record { file = f; part = 0 }) || sets_key all (record { file = f; part = 0 })) (same_file j k e)

stand_gives : (ks : List Key) (all cs : List Change) → all_stand ks all cs ≡ true → (k : Key) → sets_key cs k ≡ true → stands_key ks all k ≡ true
stand_gives ks all [] t k h = absurd (false≢true h)
stand_gives ks all (Remove f ∷ cs) t k h = stand_gives ks all cs t k h
stand_gives ks all (Set j v ∷ cs) t k h =
    let parts = and_parts (stands ks all (Set j v)) (all_stand ks all cs) t in
    elim (or_cases (same_key j k) (sets_key cs k) h) [ inl e ↦ sym (stands_alike ks all j k e) ∙ parts.0 | inr m ↦ stand_gives ks all cs parts.1 k m ]

stand_from : (ks : List Key) (all cs : List Change) → ((k : Key) → sets_key cs k ≡ true → stands_key ks all k ≡ true) → all_stand ks all cs ≡ true
stand_from ks all [] each = refl
stand_from ks all (Remove f ∷ cs) each = stand_from ks all cs each
stand_from ks all (Set j v ∷ cs) each =
    and_from (stands ks all (Set j v)) (all_stand ks all cs) (each j (or_left (same_key j j) (sets_key cs j) (same_itself j)))
    (stand_from ks all cs (λ k h. each k (or_right (same_key j k) (sets_key cs k) h)))

alike : (a b : Bool) → (a ≡ true → b ≡ true) → (b ≡ true → a ≡ true) → a ≡ b
alike true b f g = sym (f refl)
alike false true f g = g refl
alike false false f g = refl

past_first : (r h s : Bool) → r ≡ false → (r || h || s) ≡ true → (h || s) ≡ true
past_first true h s f t = absurd (true≢false f)
past_first false h s f t = t

-- of a map whose chunks all have entries
module _ (cs : List Change) (os : Objects) (t : in_order cs ≡ true) (good : rooted (keys_of os) ≡ true) where
  abbrev later : List Key
  later = keys_of (after_batch os cs)

  entry_there : all_stand (keys_of os) cs cs ≡ true → (k : Key) → has_key later k ≡ true → has_key later (entry_of k) ≡ true
  entry_there st k h =
      let parts = and_parts (not (removes cs k.file)) (has_key (keys_of os) k || sets_key cs k) (sym (has_after cs os k t) ∙ h) in
      let entry : (has_key (keys_of os) (entry_of k) || sets_key cs (entry_of k)) ≡ true = elim (or_cases (has_key (keys_of os) k) (sets_key cs k) parts.1) [
        | inl old ↦ or_left (has_key (keys_of os) (entry_of k)) (sets_key cs (entry_of k)) (entered_gives (keys_of os) (keys_of os) good k old)
        | inr new ↦ past_first (removes cs k.file) (has_key (keys_of os) (entry_of k)) (sets_key cs (entry_of k)) (not-true (removes cs k.file) parts.0) (stand_gives (keys_of os) cs cs st k new)
      ] in
      has_after cs os (entry_of k) t ∙ and_from (not (removes cs k.file)) (has_key (keys_of os) (entry_of k) || sets_key cs (entry_of k)) parts.0 entry

  key_stands : rooted later ≡ true → (k : Key) → sets_key cs k ≡ true → stands_key (keys_of os) cs k ≡ true
  key_stands rt k h = by (removes cs k.file) refl
    where
      by : (r : Bool) → removes cs k.file ≡ r → (r || has_key (keys_of os) (entry_of k) || sets_key cs (entry_of k)) ≡ true
      by true e = refl
      by false e =
          let there = has_after cs os k t ∙ ap₂ (λ (a b : Bool). not a && b) e (or_right (has_key (keys_of os) k) (sets_key cs k) h) in
          (and_parts (not (removes cs k.file)) (has_key (keys_of os) (entry_of k) || sets_key cs (entry_of k)) (sym (has_after cs os (entry_of k) t) ∙ entered_gives later later rt k there)).1

  pub rooted_after : all_stand (keys_of os) cs cs ≡ rooted (keys_of (after_batch os cs))
  rooted_after =
      alike (all_stand (keys_of os) cs cs) (rooted later) (λ st. entered_from later later (entry_there st)) (λ rt. stand_from (keys_of os) cs cs (key_stands rt))
