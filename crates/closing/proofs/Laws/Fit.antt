-- What holds of every answer to closing, so that whoever uses the modes can go by them.
use Prim.Native.Nat.{◌≤◌}
use mathlib.Core.Path.{◌≡◌, refl}
use mathlib.Core.Bool.{Bool, true, false, ◌&&◌, false≢true, true≢false}
use mathlib.Core.List.{List, ◌∷◌}
use lib.Dec.{leb}
use borrow.Author.Tests.{leb-true}
use Rattle.std.specs.Prelude.{Some, None}
use Rattle.std.proofs.lemmas.Bool.{and_parts}
use Rattle.node_names.specs.declared.NumberName.{NumberName}
use Rattle.nodes.specs.declared.Parameter.{Parameter}
use Rattle.nodes.specs.declared.Settings.{Settings}
use Rattle.closing.specs.declared.Closed.{Closed}
use Rattle.closing.specs.Closing.{is_absolute, is_multi_touch, most_contacts, has_contacts, lacks, lack_tests, first_lack}
use Rattle.closing.specs.Closing.{Lack, number_of, closed_as, unless_lacking, close_settings}

-- Raw is absolute too, and multi-touch has 1 to 32 contacts. A refusal has neither mode.
pub record Fit (closed : Closed) : Type 0 where
  pub raw_is_absolute : closed.raw ≡ true → closed.absolute ≡ true
  pub contacts_allowed : closed.multi_touch ≡ true → (1 ≤ closed.contacts) × (closed.contacts ≤ most_contacts)

-- a lack that was passed over isn't there
passed : (lack : Bool) (name : NumberName) (rest : List (Bool × NumberName)) → first_lack ((lack, name) ∷ rest) ≡ None
    → (lack ≡ false) × (first_lack rest ≡ None)
unfolding first_lack
passed true name rest h = absurd cc
passed false name rest h = (refl, h)

not_lacking : (needed had : Bool) → lacks needed had ≡ false → needed ≡ true → had ≡ true
not_lacking needed true h on = refl
not_lacking needed false h on = absurd (true≢false (rw on at h))

allowed : (contacts : Parameter) → has_contacts contacts ≡ true → (1 ≤ number_of contacts) × (number_of contacts ≤ most_contacts)
allowed contacts h =
    let parts = and_parts contacts.given (leb 1 contacts.value && leb contacts.value most_contacts) h in
    let range = and_parts (leb 1 contacts.value) (leb contacts.value most_contacts) parts.1 in
    rw parts.0 (leb-true 1 contacts.value range.0, leb-true contacts.value most_contacts range.1)

contacts_there : (settings : Settings) → first_lack (lack_tests settings) ≡ None → is_multi_touch settings ≡ true
    → has_contacts settings.contacts ≡ true
contacts_there settings h on =
    let after-width = (passed _ _ _ h).1 in
    let after-height = (passed _ _ _ after-width).1 in
    not_lacking (is_multi_touch settings) (has_contacts settings.contacts) (passed _ _ _ after-height).0 on

fit : (settings : Settings) (lack : Lack) → first_lack (lack_tests settings) ≡ lack → Fit (unless_lacking lack (closed_as settings))
unfolding unless_lacking
fit settings None h = record {
  raw_is_absolute = λ on. (and_parts (settings.feature_raw_pointer && settings.request_raw_pointer) (is_absolute settings) on).1;
  contacts_allowed = λ on. allowed settings.contacts (contacts_there settings h on);
}
fit settings (Some name) h = record {
  raw_is_absolute = λ on. on;
  contacts_allowed = λ on. absurd (false≢true on);
}

pub closed_fit : (settings : Settings) → Fit (close_settings settings)
closed_fit settings = fit settings (first_lack (lack_tests settings)) refl
