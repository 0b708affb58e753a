-- A link that enters a record: how it and a slip are judged, what commit answers, and what becomes of the state.
use Rattle.std.specs.Prelude.{ℕ, ◌+◌, ◌≡◌, List, [], ◌∷◌, ◌&&◌, length, eqb, ltb}
use Rattle.packed.specs.Limits.{kinds_most, edges_most}
use Rattle.packed.specs.Format.{pick}
use Rattle.packed.specs.Formats.{linked}
use Rattle.packed.specs.Contents.{nodes_of, edges_of}
use Rattle.packed.specs.Entered.{edges_in, entered}
use Rattle.packed.specs.Refusals.{Told}
use Rattle.packed.specs.Calls.{Outcome, give, refuse, Settled, with_workspace, Verdict, accepted, rejected, read_record, judged, record_bytes, fit_both}
use Rattle.engine.specs.Simulation.{graph_of}
use Rattle.engine.specs.Index.{index_of}
use Rattle.matching.specs.declared.state.State.{State}
use Rattle.matching.specs.declared.state.Link.{Link}
use Rattle.matching.specs.declared.state.Slip.{Slip}

-- "both steps give 3 if the state's link count isn't the record's, then 4 for an end, 3 for a kind above 7, 6 for a link already there, 3 for a full record,
-- each with detail 3": a link beside a link count and the content ws of a record. It is accepted with the content of the record "with this link".
unfoldable pub judge_link : ℕ → List ℕ → Link → Verdict
judge_link links ws l =
    pick (eqb links (edges_of ws))
    (pick (ltb l.from (nodes_of ws) && ltb l.to (nodes_of ws))
    (pick (ltb l.kind kinds_most)
    (pick (linked l.from l.to l.kind (edges_in ws)) (rejected 6 3)
    (pick (ltb (edges_of ws) edges_most) (accepted (entered ws l.from l.to l.kind)) (rejected 3 3)))
    (rejected 3 3))
    (rejected 4 3))
    (rejected 3 3)

-- the last change number
abbrev pub change_most : ℕ
change_most = 4294967295

-- "commit refuses with 20 a slip whose change number isn't the current one, then with 21 if that number is 4,294,967,295", "detail the current number"
unfoldable pub judge_slip : State → Slip → Verdict
judge_slip s p =
    pick (eqb p.change s.change)
    (pick (eqb s.change change_most) (rejected 21 s.change) (accepted []))
    (rejected 20 s.change)

-- the link of a slip
abbrev pub link_on : Slip → Link
link_on p = record { from = p.from; to = p.to; kind = p.kind }

-- the two outputs: the record with the content ws, in bytes, and "the index of T-05", its own
abbrev pub give_both : ℕ → ℕ → List ℕ → Outcome
give_both room room' ws = fit_both room room' (record_bytes ws) (index_of (graph_of ws))

-- what commit answers, once the record is read: 20 and 21 are "right after the papers", "commit gives 12 last"
abbrev pub commit_for : List ℕ → State → Slip → ℕ → ℕ → Outcome
commit_for rs s p room room' = judged (judge_slip s p) (λ _. judged (judge_link s.links rs (link_on p)) (give_both room room'))

unfoldable pub commit_outcome : List ℕ → State → Slip → ℕ → ℕ → Outcome
commit_outcome r s p room room' = judged (read_record r) (λ rs. commit_for rs s p room room')

-- the state with these two numbers
abbrev pub state_of : ℕ → ℕ → State
state_of links change = record { links = links; change = change }

-- commit "adds 1 to both numbers"; "a refusal leaves the state as it came"
unfoldable pub state_after : Outcome → State → State
state_after (give vs outs) s = state_of (s.links + 1) (s.change + 1)
state_after (refuse n d) s = s

-- what commit settles: its result, both outputs, the workspace and the state
pub record Commits (r : List ℕ) (s : State) (p : Slip) (t : Told) (s' : State) (out out' index index' work work' : List ℕ) : Type 0 where
  pub settled : Settled [] (with_workspace (length work) (commit_outcome r s p (length out) (length index))) t (out ∷ index ∷ []) (out' ∷ index' ∷ []) work work'
  pub state : s' ≡ state_after (with_workspace (length work) (commit_outcome r s p (length out) (length index))) s
