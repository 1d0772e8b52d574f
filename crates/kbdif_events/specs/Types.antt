-- Types of events and subtypes of touches, by the names of Xen's header (003).
use Rattle.std.specs.Prelude.{ℕ}

abbrev pub xenkbd_type_motion : ℕ
xenkbd_type_motion = 1

abbrev pub xenkbd_type_key : ℕ
xenkbd_type_key = 3

abbrev pub xenkbd_type_pos : ℕ
xenkbd_type_pos = 4

abbrev pub xenkbd_type_mtouch : ℕ
xenkbd_type_mtouch = 5

abbrev pub xenkbd_mt_ev_down : ℕ
xenkbd_mt_ev_down = 0

abbrev pub xenkbd_mt_ev_up : ℕ
xenkbd_mt_ev_up = 1

abbrev pub xenkbd_mt_ev_motion : ℕ
xenkbd_mt_ev_motion = 2

abbrev pub xenkbd_mt_ev_syn : ℕ
xenkbd_mt_ev_syn = 3

abbrev pub xenkbd_mt_ev_shape : ℕ
xenkbd_mt_ev_shape = 4

abbrev pub xenkbd_mt_ev_orient : ℕ
xenkbd_mt_ev_orient = 5
