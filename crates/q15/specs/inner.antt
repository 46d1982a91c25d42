pub mod FirBlock
