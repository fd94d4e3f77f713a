use Rattle.std.proofs.lemmas.Result.{err_from_is_err_and}
use Rattle.calls.proofs.Sides.{mapped_ok, mapped_err, snapshot-refused, target-refused, both-compared}
use Rattle.calls.proofs.Acceptance.{accepted-stands}
use Rattle.calls.proofs.compare_manifests.Goals as goal

pub returns-in_err-starts : goal.returns-in_err-starts
returns-in_err-starts c =
    let q = err_from_is_err_and c.from_residual.result c.from_residual.ensures.1 in
    let m = mapped_err _ c.decode_manifest.result c.map_err.ensures.cases c.in_err-starts.was in
    let p = snapshot-refused _ _ _ _ _ _ _ _ (λ i. (c.type_inv.snapshot i).fits) (λ i. (c.type_inv.target i).fits)
    c.decode_manifest.ensures.value c.decode_manifest.ensures.index_after m.1 in
    rw (q.1, q.2, m.2) (record { value = p.0; index_after = p.1.0; index2_after = p.1.1.0; verdict_demand = p.1.1.1 })

pub returns-in_err-starts2 : goal.returns-in_err-starts2
returns-in_err-starts2 c =
    let a = mapped_ok _ c.decode_manifest.result c.map_err.ensures.cases c.in_ok-starts.was in
    let q = err_from_is_err_and c.from_residual-in_err-starts2.result c.from_residual-in_err-starts2.ensures.1 in
    let m = mapped_err _ c.decode_manifest-2.result c.map_err-2.ensures.cases c.in_err-starts2.was in
    let p = target-refused _ _ _ _ _ _ _ _ (λ i. (c.type_inv.snapshot i).fits) (λ i. (c.type_inv.target i).fits)
    c.decode_manifest.ensures.value c.decode_manifest.ensures.index_after a c.decode_manifest-2.ensures.value c.decode_manifest-2.ensures.index_after m.1 in
    rw (q.1, q.2, m.2) (record { value = p.0; index_after = p.1.0; index2_after = p.1.1.0; verdict_demand = p.1.1.1 })

pub compare_sections-requires : goal.compare_sections-requires
compare_sections-requires c = (
  accepted-stands _ _ _ _ c.decode_manifest.ensures.value (mapped_ok _ c.decode_manifest.result c.map_err.ensures.cases c.in_ok-starts.was) (λ i. (c.type_inv.snapshot i).fits),
  accepted-stands _ _ _ _ c.decode_manifest-2.ensures.value (mapped_ok _ c.decode_manifest-2.result c.map_err-2.ensures.cases c.in_ok-starts2.was) (λ i. (c.type_inv.target i).fits),
)

pub returns : goal.returns
returns c =
    let a = mapped_ok _ c.decode_manifest.result c.map_err.ensures.cases c.in_ok-starts.was in
    let b = mapped_ok _ c.decode_manifest-2.result c.map_err-2.ensures.cases c.in_ok-starts2.was in
    let p = both-compared _ _ _ _ _ _ _ _ (λ i. (c.type_inv.snapshot i).fits) (λ i. (c.type_inv.target i).fits)
    c.decode_manifest.ensures.value c.decode_manifest.ensures.index_after a c.decode_manifest-2.ensures.value c.decode_manifest-2.ensures.index_after b
    c.compare_sections.ensures in record { value = p.0; index_after = p.1.0; index2_after = p.1.1.0; verdict_demand = p.1.1.1 }
