-- Closing the settings (01, "kbdif ring and nodes"): the modes, and what each needs.
use Rattle.std.specs.Prelude.{ℕ, Bool, false, not, cond, ◌&&◌, List, [], ◌∷◌, Option, Some, None, leb}
use Rattle.answers.specs.Answers.{done, bad_setting}
use Rattle.node_names.specs.declared.NumberName.{NumberName}
use Rattle.node_names.specs.declared.NumberName.TheVariants.{Width, Height, Contacts, TouchWidth, TouchHeight}
use Rattle.nodes.specs.declared.Parameter.{Parameter}
use Rattle.nodes.specs.declared.Settings.{Settings}
use Rattle.closing.specs.declared.Closed.{Closed}

-- A mode is on where the back end has the feature and the front end requests it.
abbrev pub is_absolute : Settings → Bool
is_absolute settings = settings.feature_abs_pointer && settings.request_abs_pointer

abbrev pub is_multi_touch : Settings → Bool
is_multi_touch settings = settings.feature_multi_touch && settings.request_multi_touch

-- Raw coordinates are absolute ones.
abbrev pub is_raw : Settings → Bool
is_raw settings = (settings.feature_raw_pointer && settings.request_raw_pointer) && is_absolute settings

-- Absolute coordinates without raw are scaled to an area.
unfoldable pub is_scaled : Settings → Bool
is_scaled settings = is_absolute settings && not (is_raw settings)

-- The most contacts that a node may give.
abbrev pub most_contacts : ℕ
most_contacts = 32

-- There are 1 to 32 contacts.
abbrev pub has_contacts : Parameter → Bool
has_contacts contacts = contacts.given && (leb 1 contacts.value && leb contacts.value most_contacts)

abbrev pub lacks : Bool → Bool → Bool
lacks needed had = needed && not had

-- What is needed and isn't there, in the order in which a lack is named.
abbrev pub lack_tests : Settings → List (Bool × NumberName)
lack_tests settings =
    (lacks (is_scaled settings) settings.width.given, Width)
    ∷ (lacks (is_scaled settings) settings.height.given, Height)
    ∷ (lacks (is_multi_touch settings) (has_contacts settings.contacts), Contacts)
    ∷ (lacks (is_multi_touch settings) settings.touch_width.given, TouchWidth)
    ∷ (lacks (is_multi_touch settings) settings.touch_height.given, TouchHeight)
    ∷ []

-- The first number that is needed and wasn't given as it has to be, if there is one.
abbrev pub Lack : Type 0
Lack = Option NumberName

unfoldable pub first_lack : List (Bool × NumberName) → Lack
first_lack [] = None
first_lack ((lack, name) ∷ rest) = cond lack (Some name) (first_lack rest)

-- A number as it was given, and 0 where it wasn't.
abbrev pub number_of : Parameter → ℕ
number_of parameter = cond parameter.given parameter.value 0

-- A refusal hands back no mode, no number and no flag.
abbrev pub not_closed : Closed
not_closed = record {
  answer = bad_setting;
  absolute = false;
  multi_touch = false;
  raw = false;
  disable_keyboard = false;
  disable_pointer = false;
  width = 0;
  height = 0;
  contacts = 0;
  touch_width = 0;
  touch_height = 0;
}

-- Numbers and disable flags are handed back as they were given, also where no mode needs them.
abbrev pub closed_as : Settings → Closed
closed_as settings = record {
  answer = done;
  absolute = is_absolute settings;
  multi_touch = is_multi_touch settings;
  raw = is_raw settings;
  disable_keyboard = settings.feature_disable_keyboard;
  disable_pointer = settings.feature_disable_pointer;
  width = number_of settings.width;
  height = number_of settings.height;
  contacts = number_of settings.contacts;
  touch_width = number_of settings.touch_width;
  touch_height = number_of settings.touch_height;
}

-- A lack is 12.
unfoldable pub unless_lacking : Lack → Closed → Closed
unless_lacking None closed = closed
unless_lacking (Some name) closed = not_closed

abbrev pub close_settings : Settings → Closed
close_settings settings = unless_lacking (first_lack (lack_tests settings)) (closed_as settings)
