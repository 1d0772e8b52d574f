-- Records that a loop puts part by part: what is left to put, from where the area and the index are now, always gives the whole.
use Prim.Native.Nat.{ℕ, ◌<◌}
use mathlib.Core.Path.{◌≡◌, refl, ◌∙◌}
use mathlib.Core.List.{List, [], ◌++◌}
use lib.ListN.{length}
use Rattle.geometry.specs.declared.Ring.{Ring}
use Rattle.records.specs.declared.Event.{Event}
use Rattle.records.specs.Ring.{Holds}
use Rattle.records.specs.Put.{put_records, index_after, Put}
use Rattle.records.proofs.Laws.PutAll.{put_next, put_ready}

-- Once `rest` is put from the index `at` on, all are put.
pub record Remains (ring : Ring) (index : ℕ) (events : List Event) (start area : List ℕ) (at : ℕ) (rest : List Event) : Type 0 where
  pub holds : Holds (length area) ring
  pub inside : at < ring.length
  pub size : length area ≡ length start
  pub bytes : put_records ring at rest area ≡ put_records ring index events start
  pub ends : index_after ring at rest ≡ index_after ring index events

module _ (ring : Ring) (index : ℕ) (events : List Event) (start : List ℕ) where
  pub remains_begin : Holds (length start) ring → index < ring.length → Remains ring index events start start index events
  remains_begin h k = record { holds = h; inside = k; size = refl; bytes = refl; ends = refl }

  pub remains_go_on : {area after : List ℕ} {at next : ℕ} {first rest : List Event}
      → Remains ring index events start area at (first ++ rest)
      → Put ring at first area after next → length after ≡ length area → Remains ring index events start after next rest
  remains_go_on {after = after} {next = next} {rest = rest} remains put kept =
      let ready = put_ready ring remains.holds remains.inside put in
      let others : Put ring next rest after (put_records ring next rest after) (index_after ring next rest) =
      record { ends = refl; holds = refl } in
      let all = put_next ring put others in
      record {
        holds = ready.0;
        inside = ready.1;
        size = kept ∙ remains.size;
        bytes = all.holds ∙ remains.bytes;
        ends = all.ends ∙ remains.ends;
      }

  pub remains_end : {area : List ℕ} {at : ℕ} → Remains ring index events start area at [] → Put ring index events start area at
  unfolding put_records index_after
  remains_end remains = record { ends = remains.ends; holds = remains.bytes }
