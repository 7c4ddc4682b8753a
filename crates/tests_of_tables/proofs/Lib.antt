pub mod LostTable
