-- `packed::sheet::write_listing` meets its contract.
use Rattle.packed.proofs.Passing.{err_is}
use Rattle.packed.proofs.Sheets.{lead_rejected, lists_put}
use Rattle.packed.proofs.sheet.write_listing.Goals as goal

pub returns : goal.returns
returns c =
    let args = c.args in
    let pre = c.requires in
    let standing = c.standing-k in
    let write-lists = c.write_lists in
    let p = c.in_ok-lead.ensures in
    lists_put args.m pre.0 p standing.ensures.0 write-lists.result _ write-lists.ensures standing.ensures.1

pub returns-in_err-lead : goal.returns-in_err-lead
returns-in_err-lead c =
    let args = c.args in
    let p = c.in_err-lead.ensures in
    rw (err_is c.from_residual.result c.from_residual.ensures.1) (lead_rejected args.m p)
