use Rattle.fragments.proofs.Pieced.{index_said}
use Rattle.fragments.proofs.cutting.index_bytes.Goals as goal

pub returns : goal.returns
returns c =
    index_said c.args.size c.args.fragments.now _ _ _ _ _ _ c.new-bytes.ensures.items c.to_be_bytes.ensures c.in_ok-extend_from_slice.ensures.items
    c.to_be_bytes-2.ensures c.in_ok-extend_from_slice-2.ensures.items c.in_ok-put_files.ensures
