-- The records of a packet's buttons: how many there are, and the loop that puts them.
use Prim.Native.Nat.{ℕ, ◌+◌, ◌≤◌, ◌<◌}
use mathlib.Core.Path.{◌≡◌, refl, ◌∙◌}
use mathlib.Core.List.{List, [], ◌∷◌}
use native.Mathlib.Omega.{arith}
use native.Mathlib.Numerals.{add-one}
use lib.ListN.{length, length-append, get_or, drop, drop_of_length-le}
use lib.Seq.{drop-cons}
use Rattle.geometry.specs.declared.Ring.{Ring}
use Rattle.records.specs.declared.Event.{Event}
use Rattle.records.specs.Put.{record_if, Put}
use Rattle.records.proofs.Laws.Packet.{none}
use Rattle.records.proofs.Laws.PutAll.{if_length}
use Rattle.records.proofs.Laws.Remains.{Remains, remains_go_on, remains_end}
use Rattle.revision1_gestures.specs.Gesture.{is_button, button_count}
use Rattle.revision1_records.specs.Records.{button_record, button_records}

-- ---- how many

pub button_count_lem : (events : List Event) → length (button_records events) ≡ button_count events
unfolding button_records button_count
button_count_lem [] = refl
button_count_lem (event ∷ rest) =
    rw (length-append (record_if (is_button event) (button_record event)) (button_records rest), if_length, button_count_lem rest)

length_none : (records : List Event) → length records ≡ 0 → records ≡ []
length_none [] e = refl
length_none (event ∷ rest) e = absurd (omega arith)

pub no_buttons : (events : List Event) → button_count events ≡ 0 → button_records events ≡ []
no_buttons events e = length_none (button_records events) (button_count_lem events ∙ e)

-- ---- the loop over the events: the buttons of those from `i` on remain

abbrev pub ButtonsRemain : Ring → ℕ → List Event → List ℕ → List ℕ → ℕ → ℕ → Type 0
ButtonsRemain ring index events start area at i =
    Remains ring index (button_records events) start area at (button_records (drop i events))

module _ (ring : Ring) (index : ℕ) (events : List Event) (start : List ℕ) {area : List ℕ} {at : ℕ} (i : ℕ)
    (remain : ButtonsRemain ring index events start area at i) where
  pub buttons_go_on : i < length events → {event : Event} {after : List ℕ} {next : ℕ} → event ≡ get_or events i none
      → Put ring at (record_if (is_button event) (button_record event)) area after next → length after ≡ length area
      → ButtonsRemain ring index events start after next (i + 1)
  unfolding button_records
  buttons_go_on low {event} read put kept =
      let more : drop i events ≡ event ∷ drop (i + 1) events = drop-cons events i none low ∙ rw (read, add-one) in
      remains_go_on ring index (button_records events) start (rw more at remain) put kept

  pub buttons_end : length events ≤ i → Put ring index (button_records events) start area at
  unfolding button_records
  buttons_end h = remains_end ring index (button_records events) start (rw (drop_of_length-le events {i = i} h) at remain)
