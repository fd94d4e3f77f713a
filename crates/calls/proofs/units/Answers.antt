use Rattle.std.proofs.lemmas.Result.{err_from_is_err_and}
use Rattle.calls.proofs.Acceptance.{accepted-leaves, units-refused, units-counted}
use Rattle.calls.proofs.units.Goals as goal

pub count_units-requires : goal.count_units-requires
count_units-requires c = accepted-leaves _ _ _ _ c.decode_manifest.ensures.value c.in_ok-decode_manifest.was c.decode_manifest.ensures.index_after

pub returns-in_err-decode_manifest : goal.returns-in_err-decode_manifest
returns-in_err-decode_manifest c =
    let q = err_from_is_err_and c.from_residual.result c.from_residual.ensures.1 in
    let p = units-refused _ _ _ _ (λ i. (c.type_inv.bytes i).fits) c.decode_manifest.ensures.value c.decode_manifest.ensures.index_after c.in_err-decode_manifest.was in
    rw (q.1, q.2) (record { value = p.0; index_after = p.1.0; words_demand = p.1.1 })

pub returns : goal.returns
returns c =
    let p = units-counted _ _ _ _ (λ i. (c.type_inv.bytes i).fits) c.decode_manifest.ensures.value c.decode_manifest.ensures.index_after c.in_ok-decode_manifest.was (c.count_units.ensures.value, c.count_units.ensures.index_after) in
    record { value = p.0; index_after = p.1.0; words_demand = p.1.1 }
