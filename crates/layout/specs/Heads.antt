-- What stands before the store, written over a block part by part.
use Rattle.std.specs.Prelude.{ℕ, List, [], ◌∷◌}
use Rattle.tables.specs.declared.front.Front.{Front}
use Rattle.packing.specs.Bytes.{half_width, put}
use Rattle.layout.specs.Layout.{priority_place, state_place, arrived_place, list_place, operator_place, awaits_place, holder_place, entries_place, opened_place, bound_place, length_place}

abbrev pub columns_put : List ℕ → List ℕ → List ℕ → List ℕ → List ℕ → List ℕ → List ℕ → List ℕ
columns_put priority state arrived list operator awaits block =
    put 1 awaits_place awaits
    (put 1 operator_place operator
    (put half_width list_place list (put half_width arrived_place arrived (put 1 state_place state (put 1 priority_place priority block)))))

abbrev pub heads_put : List ℕ → List ℕ → List ℕ → List ℕ → List ℕ → List ℕ → List ℕ
heads_put holder entries opened bound lengths block =
    put 1 length_place lengths
    (put 1 bound_place bound (put 1 opened_place opened (put 1 entries_place entries (put 1 holder_place holder block))))

-- all that stands before the store
unfoldable pub head_put : Front → List ℕ → List ℕ
head_put f block =
    heads_put f.holder f.entries f.opened f.bound f.length
    (columns_put f.priority f.state f.arrived f.list f.operator f.awaits
    (put 1 0 (f.tasks ∷ f.regions ∷ f.queues ∷ f.elected ∷ []) block))
