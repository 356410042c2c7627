-- `decode::pass::decoded_len` meets its contract: in a buffer without cells all is only counted. Assumes nothing.
use Rattle.decode.proofs.pass.decoded_len.Goals as goal

pub put_decoded-requires : goal.put_decoded-requires
put_decoded-requires c = c.requires

pub returns : goal.returns
returns c = c.put_decoded.ensures.size
