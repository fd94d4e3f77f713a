-- Refusals of the Rust that cannot arise: document 01, "`unknown external input`, `connector occurs in multiple block port lists` .. can't arise
-- after these questions; that is proved"; and its test that a manifest is written in the one way that there is.
use Prim.Native.Nat.{ℕ}
use mathlib.Core.Path.{◌≡◌}
use mathlib.Core.Bool.{true}
use mathlib.Core.List.{List, [], ◌∷◌}
use lib.Dec.{eqb}
use Rattle.std.proofs.lemmas.Bool.{and_parts as both}
use Rattle.state.specs.Bytes.{AreBytes}
use Rattle.state.specs.Outcome.{got}
use Rattle.state_wire.specs.Fields.{max_snapshot_bytes}
use Rattle.format.specs.Lists.{all_different}
use Rattle.format.specs.Format.{late, wire, El, encode}
use Rattle.format.specs.Admits.{All, Holds}
use Rattle.format.specs.Keys.{block_key, direction}
use Rattle.format.specs.Manifest.{counted, connector_keys, block_rest, enums, blocks, manifest}
use Rattle.format.specs.Fields.{Entry, enums_of, blocks_of, connectors_of, external_inputs_of, external_input, block_key_of, inputs, outputs}
use Rattle.format.proofs.Pairwise.{ascending-iff, ascending-different, different-iff}
use Rattle.questions.specs.Sets.{all, gather, first}
use Rattle.questions.specs.Declarations.{block_names, connector_names, block_answer, block_ports, declarations}
use Rattle.questions.specs.References.{is_known, is_directed, externals_hold, boundaries}
use Rattle.questions.specs.Answers.{judge}
use Rattle.questions.proofs.Chains.{first-none, unless-none, each_none}
use Rattle.questions.proofs.Accepted.{passed-canonical, judge-tells}
use Rattle.questions.proofs.Sets.{all_weaker}
use Rattle.questions.proofs.Ports.{AllAdmitted, Passes, blocks-differ}

-- ---- 'unknown external input'
-- after question 25 each external input is a connector's key
pub external-inputs-known : (m : El manifest) → first (boundaries m) ≡ 0
    → all (λ x. is_known (connector_names (connectors_of m)) (external_input x)) (external_inputs_of m) ≡ true
unfolding boundaries externals_hold is_directed
external-inputs-known m e =
    let b = both _ _ (unless-none 24 _ (first-none _ _ e).0) in
    all_weaker _ _ (λ x h. (both (eqb (direction (external_input x)) 0) _ h).1) (external_inputs_of m) b.0

-- ---- 'connector occurs in multiple block port lists': `one_place` of Ports says it of any two ports that pass 14; here of all of them
passes : (es : List (Entry enums)) (b : Entry blocks) → Holds max_snapshot_bytes block_rest b.1 → block_answer es b ≡ 0 → Passes b
unfolding Holds block_rest connector_keys AllAdmitted block_answer inputs outputs
passes es b h e =
    let a = both _ _ (unless-none 13 _ (first-none _ _ (first-none _ _ (first-none _ _ e).1).1).0) in
    record { ins = h.1.1.0.1; outs = h.1.1.1.1; ins-hold = a.0; outs-hold = a.1 }

all_pass : (es : List (Entry enums)) (bs : List (Entry blocks)) → All (λ b. Holds max_snapshot_bytes block_key b.0 × Holds max_snapshot_bytes block_rest b.1) bs
    → All (λ b. block_answer es b ≡ 0) bs → All Passes bs
all_pass es [] h e = tt
all_pass es (b ∷ bs) h e = (passes es b h.0.1 e.0, all_pass es bs h.1 e.1)

-- question 9 leaves no block key twice
blocks-named-once : (bs : List (Entry blocks)) → Holds max_snapshot_bytes (counted blocks) bs → all_different (block_names bs) ≡ true
unfolding Holds block_names block_key_of
blocks-named-once bs h =
    let names : List (List ℕ) = block_names bs in
    (different-iff names).1 (ascending-different names ((ascending-iff (late wire) tt names).0 h.2))

module _ (m : El manifest) (h : Holds max_snapshot_bytes manifest m) (e : first (declarations m) ≡ 0) where
  -- the ports of each block are as question 14 asks
  pub blocks-pass : All Passes (blocks_of m)
  unfolding Holds manifest declarations blocks_of
  blocks-pass = all_pass (enums_of m) (blocks_of m) h.1.1.0.1 (each_none (block_answer (enums_of m)) (blocks_of m) (first-none _ _ (first-none _ _ e).1).0)

  -- after questions 9 and 14 no port stands twice in the blocks' lists
  pub ports-once : all_different (gather block_ports (blocks_of m)) ≡ true
  unfolding Holds manifest blocks_of
  ports-once = blocks-differ (blocks_of m) blocks-pass (blocks-named-once (blocks_of m) h.1.1.0)

-- ---- 'manifest has a non-canonical encoding'
module _ (bound : List (List ℕ)) (revision : ℕ) (s : List ℕ) (w : ℕ) (bytes : AreBytes s) where
  -- an accepted manifest is its bytes as they would be written again
  pub written-again : {m : El manifest} {n : ℕ} → judge bound revision s w ≡ got m n → encode manifest m ≡ s
  written-again e = (passed-canonical s w bytes (judge-tells bound revision s w e).passed).0
